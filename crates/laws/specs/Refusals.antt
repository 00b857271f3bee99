-- Orders of refusals: which number is the first that is given, and what the numbers of the calls say. Assumes nothing.
use Rattle.std.specs.Prelude.{◌≡◌, Bool, true, false, ◌||◌, List, [], ◌∷◌, ◌++◌, ℕ, ◌+◌, ◌*◌, ltb, eqb, length, get_or, Result, Ok, Err}
use Rattle.std.proofs.Math.Path.{refl}
use Rattle.std.proofs.Common.{sym, ap, ◌∙◌, arith, eqb-true, eq-eqb, ne_eqb}
use Rattle.std.proofs.Math.Bool.{not}
use Rattle.std.proofs.lemmas.Bool.{eqb-false, not-false}
use Rattle.rules.specs.Store.{header_right, draft_right, records_right, constraints_right, node_part, edge_part, constraint_part}
use Rattle.rules.specs.Index.{exceeds, too_many, store_of}
use Rattle.rules.specs.Pattern.{size_of, edges_of, pattern_right}
use Rattle.rules.specs.Plan.{most_read, all_covered, bound}
use Rattle.rules.specs.Answers.{◌when◌, first_of, build_number, same, admit_number, plan_number}
use Rattle.rules.specs.Refused.{refusal_number, number_of}
use Rattle.rules.specs.declared.Refusal.{Refusal}
use Rattle.rules.specs.declared.Refusal.TheVariants.{Header, Record, Constraint, LongList, Unfit, Pattern, Uncovered, Bound, Work, Room, Index}
use Rattle.laws.specs.Cases.{or-first, or-second}

-- ---- one number before others
-- it is given
pub first-given : (n : ℕ) (ns : List ℕ) → (n ≡ 0 → ⊥) → first_of (n ∷ ns) ≡ n
unfolding first_of
first-given n ns h = rw (ne_eqb n 0 h, first_of)

-- it is not
pub first-passed : (n : ℕ) (ns : List ℕ) → n ≡ 0 → first_of (n ∷ ns) ≡ first_of ns
unfolding first_of
first-passed n ns h = rw (eq-eqb n 0 h, first_of)

-- its condition holds
pub refuses : (n : ℕ) (c : Bool) (ns : List ℕ) → eqb n 0 ≡ false → c ≡ true → first_of (n when c ∷ ns) ≡ n
unfolding ◌when◌
refuses n c ns z e = rw e (first-given n ns (eqb-false n 0 z))

-- its condition does not hold
pub passes : (n : ℕ) (c : Bool) (ns : List ℕ) → c ≡ false → first_of (n when c ∷ ns) ≡ first_of ns
unfolding ◌when◌
passes n c ns e = rw e (first-passed 0 ns refl)

-- none is given
pub none-first : (n : ℕ) (ns : List ℕ) → first_of (n ∷ ns) ≡ 0 → (n ≡ 0) × (first_of ns ≡ 0)
none-first n ns q = go (eqb n 0) refl
  where
    go : (x : Bool) → eqb n 0 ≡ x → (n ≡ 0) × (first_of ns ≡ 0)
    go true e = let z = eqb-true n 0 e in (z, sym (first-passed n ns z) ∙ q)
    go false e = let z = eqb-false n 0 e in absurd (z (sym (first-given n ns z) ∙ q))

pub none-given : (n : ℕ) (c : Bool) (ns : List ℕ) → eqb n 0 ≡ false → first_of (n when c ∷ ns) ≡ 0 → (c ≡ false) × (first_of ns ≡ 0)
none-given n true ns z q = absurd (eqb-false n 0 z (sym (refuses n true ns z refl) ∙ q))
none-given n false ns z q = (refl, sym (passes n false ns refl) ∙ q)

-- the last
pub first-last : (n : ℕ) → first_of (n ∷ []) ≡ n
unfolding first_of
first-last n = go (eqb n 0) refl
  where
    go : (x : Bool) → eqb n 0 ≡ x → first_of (n ∷ []) ≡ n
    go true e = let z = eqb-true n 0 e in first-passed n [] z ∙ sym z
    go false e = first-given n [] (eqb-false n 0 e)

-- ---- orders made of orders
pub first-same : (n : ℕ) (ns ms : List ℕ) → first_of ns ≡ first_of ms → first_of (n ∷ ns) ≡ first_of (n ∷ ms)
unfolding first_of
first-same n ns ms e = ap (λ x. elim (eqb n 0) [ true ↦ x | false ↦ n ]) e

-- an order of its own, as the first of an order
pub first-flat : (ns ms : List ℕ) → first_of (first_of ns ∷ ms) ≡ first_of (ns ++ ms)
first-flat [] ms = first-passed (first_of []) ms (unfold first_of in refl)
first-flat (n ∷ ns) ms = go (eqb n 0) refl (first-flat ns ms)
  where
    go : (x : Bool) → eqb n 0 ≡ x → first_of (first_of ns ∷ ms) ≡ first_of (ns ++ ms) → first_of (first_of (n ∷ ns) ∷ ms) ≡ first_of (n ∷ (ns ++ ms))
    go true e ih =
        let z = eqb-true n 0 e in
        ap (λ x. first_of (x ∷ ms)) (first-passed n ns z) ∙ ih ∙ sym (first-passed n (ns ++ ms) z)
    go false e ih =
        let z = eqb-false n 0 e in
        ap (λ x. first_of (x ∷ ms)) (first-given n ns z) ∙ first-given n ms z ∙ sym (first-given n (ns ++ ms) z)

-- ---- the numbers that calls share
-- 2, 3, 4 and 11 of a draft or a store whose header is right, in this order
unfoldable pub graph_number : List ℕ → ℕ
graph_number s =
    first_of
    (2 when not (records_right (node_part s) (edge_part s)) ∷ 3 when not (constraints_right (constraint_part s)) ∷ 4 when exceeds s ∷ 11 when too_many s ∷ [])

-- bytes for which none of them is given
pub record GraphRight (s : List ℕ) : Type 0 where
  pub records : records_right (node_part s) (edge_part s) ≡ true
  pub constraints : constraints_right (constraint_part s) ≡ true
  pub within : exceeds s ≡ false
  pub few : too_many s ≡ false

pub graph-zero : (s : List ℕ) → graph_number s ≡ 0 → GraphRight s
unfolding graph_number
graph-zero s q =
    let two = none-given 2 _ _ refl q in
    let three = none-given 3 _ _ refl two.1 in
    let four = none-given 4 _ _ refl three.1 in
    record { records = not-false _ two.0; constraints = not-false _ three.0; within = four.0; few = (none-given 11 _ [] refl four.1).0 }

pub graph-none : (s : List ℕ) → GraphRight s → graph_number s ≡ 0
unfolding graph_number first_of ◌when◌
graph-none s x = rw (x.records, x.constraints, x.within, x.few)

-- building: 1, those, 10
pub build-number : (d room : List ℕ)
    → build_number d room ≡ first_of (1 when not (draft_right d) ∷ graph_number d ∷ 10 when ltb (length room) (length (store_of d)) ∷ [])
unfolding build_number graph_number
build-number d room = first-same (1 when not (draft_right d)) _ _ (sym (first-flat _ (10 when ltb (length room) (length (store_of d)) ∷ [])))

-- admitting: 1, then those with 5 for 11, then 5 for other bytes
admit_by : Bool → Bool → Bool → Bool → Bool → Bool → ℕ
admit_by header records constraints exceed many differ =
    first_of (1 when header ∷ 2 when records ∷ 3 when constraints ∷ 4 when exceed ∷ 5 when (many || differ) ∷ [])

graph_by : Bool → Bool → Bool → Bool → ℕ
graph_by records constraints exceed many = first_of (2 when records ∷ 3 when constraints ∷ 4 when exceed ∷ 11 when many ∷ [])

other-by : (c d e f g : Bool) → (graph_by c d e f ≡ 0 → ⊥) → (graph_by c d e f ≡ 11 → ⊥) → admit_by false c d e f g ≡ graph_by c d e f
unfolding admit_by graph_by first_of ◌when◌
other-by true d e f g z m = refl
other-by false true e f g z m = refl
other-by false false true f g z m = refl
other-by false false false true g z m = absurd (m refl)
other-by false false false false g z m = absurd (z refl)

many-by : (c d e f g : Bool) → graph_by c d e f ≡ 11 → admit_by false c d e f g ≡ 5
unfolding admit_by graph_by first_of ◌when◌
many-by true d e f g m = absurd (omega arith)
many-by false true e f g m = absurd (omega arith)
many-by false false true f g m = absurd (omega arith)
many-by false false false true g m = refl
many-by false false false false g m = absurd (omega arith)

admit-last : (c : Bool) → first_of (1 when false ∷ 2 when false ∷ 3 when false ∷ 4 when false ∷ 5 when c ∷ []) ≡ 5 when c
unfolding first_of ◌when◌
admit-last true = refl
admit-last false = refl

module _ (s : List ℕ) where
  admit-tests : admit_number s
      ≡ admit_by (not (header_right s)) (not (records_right (node_part s) (edge_part s))) (not (constraints_right (constraint_part s))) (exceeds s) (too_many s) (not (same (store_of s) s))
  unfolding admit_number admit_by
  admit-tests = refl

  graph-tests : graph_number s ≡ graph_by (not (records_right (node_part s) (edge_part s))) (not (constraints_right (constraint_part s))) (exceeds s) (too_many s)
  unfolding graph_number graph_by
  graph-tests = refl

  pub admit-one : header_right s ≡ false → admit_number s ≡ 1
  unfolding admit_number
  admit-one h = refuses 1 (not (header_right s)) _ refl (ap not h)

  module _ (right : header_right s ≡ true) where
    passed : admit_number s ≡ admit_by false (not (records_right (node_part s) (edge_part s))) (not (constraints_right (constraint_part s))) (exceeds s) (too_many s) (not (same (store_of s) s))
    passed = admit-tests ∙ rw right

    pub admit-other : (graph_number s ≡ 0 → ⊥) → (graph_number s ≡ 11 → ⊥) → admit_number s ≡ graph_number s
    admit-other z m = passed ∙ other-by _ _ _ _ _ (λ e. z (graph-tests ∙ e)) (λ e. m (graph-tests ∙ e)) ∙ sym graph-tests

    pub admit-many : graph_number s ≡ 11 → admit_number s ≡ 5
    admit-many m = passed ∙ many-by _ _ _ _ _ (sym graph-tests ∙ m)

    pub admit-same : graph_number s ≡ 0 → admit_number s ≡ 5 when not (same (store_of s) s)
    unfolding admit_number
    admit-same z =
        let x = graph-zero s z in
        rw (right, x.records, x.constraints, x.within, x.few) (admit-last _)

-- a store that is admitted
pub admit-zero : (s : List ℕ) → admit_number s ≡ 0 → (header_right s ≡ true) × (graph_number s ≡ 0) × (same (store_of s) s ≡ true)
unfolding admit_number
admit-zero s q =
    let one = none-given 1 _ _ refl q in
    let two = none-given 2 _ _ refl one.1 in
    let three = none-given 3 _ _ refl two.1 in
    let four = none-given 4 _ _ refl three.1 in
    let five = (none-given 5 _ [] refl four.1).0 in (
      not-false _ one.0,
      graph-none s (record { records = not-false _ two.0; constraints = not-false _ three.0; within = four.0; few = or-first _ _ five }),
      not-false _ (or-second (too_many s) _ five),
    )

-- 3, 6, 7 and 8 of constraints and a pattern, in this order
unfoldable pub bound_number : List ℕ → List ℕ → ℕ
bound_number constraints b =
    first_of
    (3 when not (constraints_right constraints) ∷ 6 when not (pattern_right b) ∷ 7 when not (all_covered constraints b)
    ∷ 8 when ltb most_read (bound constraints b) ∷ [])

-- planning: 1, those, 10
pub plan-number : (s b room : List ℕ)
    → plan_number s b room
    ≡ first_of (1 when not (header_right s) ∷ bound_number (constraint_part s) b ∷ 10 when ltb (length room) ((size_of b + edges_of b) * 8) ∷ [])
unfolding plan_number bound_number
plan-number s b room = first-same (1 when not (header_right s)) _ _ (sym (first-flat _ (10 when ltb (length room) ((size_of b + edges_of b) * 8) ∷ [])))

-- ---- a refusal and its number
-- the refusal with a number
abbrev refusal_at : ℕ → Refusal
refusal_at n =
    get_or (Header ∷ Header ∷ Record ∷ Constraint ∷ LongList ∷ Unfit ∷ Pattern ∷ Uncovered ∷ Bound ∷ Work ∷ Room ∷ Index ∷ []) n Header

refusal-back : (r : Refusal) → refusal_at (refusal_number r) ≡ r
refusal-back Header = refl
refusal-back Record = refl
refusal-back Constraint = refl
refusal-back LongList = refl
refusal-back Unfit = refl
refusal-back Pattern = refl
refusal-back Uncovered = refl
refusal-back Bound = refl
refusal-back Work = refl
refusal-back Room = refl
refusal-back Index = refl

-- no two have the same
pub refusal-one : (r q : Refusal) → refusal_number r ≡ refusal_number q → r ≡ q
refusal-one r q e = sym (refusal-back r) ∙ ap refusal_at e ∙ refusal-back q

-- none has 0
pub refusal-given : (r : Refusal) → eqb (refusal_number r) 0 ≡ false
refusal-given Header = refl
refusal-given Record = refl
refusal-given Constraint = refl
refusal-given LongList = refl
refusal-given Unfit = refl
refusal-given Pattern = refl
refusal-given Uncovered = refl
refusal-given Bound = refl
refusal-given Work = refl
refusal-given Room = refl
refusal-given Index = refl

-- a call that gives number 0 answers, and any other number says which refusal it gives
pub refused-one : {A : Type 0} (x : Result A Refusal) (r : Refusal) → number_of x ≡ refusal_number r → x ≡ Err r
refused-one (Ok a) r e = absurd (eqb-false (refusal_number r) 0 (refusal-given r) (sym e))
refused-one (Err q) r e = ap Err (refusal-one q r e)
