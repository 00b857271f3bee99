-- What an outcome is by its number, and listing before and after its lists are read. Assumes nothing.
use Rattle.std.specs.Prelude.{◌≡◌, Bool, ℕ, ◌*◌, ◌≤◌, leb, length, drop, replicate}
use Rattle.std.proofs.Math.Path.{refl, sym, ap}
use Rattle.std.proofs.Common.{◌∙◌, true≢false, arith}
use Rattle.std.proofs.Math.Bool.{true, false, cond, not}
use mathlib.Core.List.{List, [], ◌∷◌, ◌++◌, map, flat_map}
use Rattle.std.proofs.Math.Option.{Option, some, none}
use Rattle.std.proofs.Math.Decide.{dec_le}
use Rattle.std.proofs.Math.Dec.{ltb, eqb}
use borrow.Author.Tests.{eqb-true, eqb-false, ne_eqb, le-leb, lt-leb, le-ltb, lt-ltb}
use Rattle.rules.specs.Words.{over}
use Rattle.rules.specs.Lists.{has}
use Rattle.rules.specs.Store.{header_right, constraint_part}
use Rattle.rules.specs.Pattern.{size_of}
use Rattle.rules.specs.Plan.{bound}
use Rattle.rules.specs.Listing.{Gathered, matches_of}
use Rattle.rules.specs.Answers.{◌when◌, first_of, Outcome, answered_both, refused_both, outcome_both, outcome, gathered, unfit, got_of, list_number, work_after, listed_by, sections_outcome}
use Rattle.laws.specs.Refusals.{first-given, first-passed, refuses, passes, first-last, first-same, first-flat, bound_number}

-- ---- by the number, in two result rooms
module _ (results written also room second work : List ℕ) where
  pub both-answered : outcome_both 0 results written also room second work ≡ answered_both results written also room second work
  unfolding outcome_both
  both-answered = refl

  pub both-refused : (n : ℕ) → (n ≡ 0 → ⊥) → outcome_both n results written also room second work ≡ refused_both n results room second work
  unfolding outcome_both
  both-refused n z = rw (ne_eqb n 0 z, outcome_both)

  -- the number of an outcome is the number
  pub both-number : (n : ℕ) → (outcome_both n results written also room second work).number ≡ n
  unfolding answered_both refused_both
  both-number n = go (eqb n 0) refl
    where
      go : (x : Bool) → eqb n 0 ≡ x → (outcome_both n results written also room second work).number ≡ n
      go true e =
          let z = eqb-true n 0 e in
          ap (λ m. (outcome_both m results written also room second work).number) z ∙ ap (λ o. o.number) both-answered ∙ sym z
      go false e = ap (λ o. o.number) (both-refused n (eqb-false n 0 e))

-- ---- in one
-- answered: the results, with the answer written over the room
unfoldable pub answered : List ℕ → List ℕ → List ℕ → List ℕ → Outcome
answered results written room work = record { number = 0; results = results; room = over room 0 written; second = []; work = work }

-- refused: every other result is 0, and the result room is unchanged
unfoldable pub refused : ℕ → List ℕ → List ℕ → List ℕ → Outcome
refused number results room work = record { number = number; results = map (λ x. 0) results; room = room; second = []; work = work }

module _ (results written room work : List ℕ) where
  pub outcome-answered : outcome 0 results written room work ≡ answered results written room work
  unfolding answered answered_both over
  outcome-answered = both-answered results written [] room [] work

pub outcome-refused : (n : ℕ) (results written room work : List ℕ) → eqb n 0 ≡ false → outcome n results written room work ≡ refused n results room work
unfolding refused refused_both
outcome-refused n results written room work z = both-refused results written [] room [] work n (eqb-false n 0 z)

-- an outcome with another working room
abbrev pub with_work : List ℕ → Outcome → Outcome
with_work work x = record { number = x.number; results = x.results; room = x.room; second = x.second; work = work }

module _ (n : ℕ) (results written work : List ℕ) where
  pub outcome-number : (room : List ℕ) → (outcome n results written room work).number ≡ n
  outcome-number room = both-number results written [] room [] work n

  pub outcome-work : (room other : List ℕ) → with_work work (outcome n results written room other) ≡ outcome n results written room work
  unfolding answered_both refused_both
  outcome-work room other = go (eqb n 0) refl
    where
      go : (x : Bool) → eqb n 0 ≡ x → with_work work (outcome n results written room other) ≡ outcome n results written room work
      go true e =
          rw (eqb-true n 0 e)
          (ap (with_work work) (both-answered results written [] room [] other) ∙ sym (both-answered results written [] room [] work))
      go false e =
          let z = eqb-false n 0 e in
          ap (with_work work) (both-refused results written [] room [] other n z) ∙ sym (both-refused results written [] room [] work n z)

  -- the other results do not look at the room
  pub outcome-results : (a b : List ℕ) → (outcome n results written a work).results ≡ (outcome n results written b work).results
  unfolding answered_both refused_both
  outcome-results a b = go (eqb n 0) refl
    where
      go : (x : Bool) → eqb n 0 ≡ x → (outcome n results written a work).results ≡ (outcome n results written b work).results
      go true e =
          rw (eqb-true n 0 e)
          (ap (λ o. o.results) (both-answered results written [] a [] work) ∙ sym (ap (λ o. o.results) (both-answered results written [] b [] work)))
      go false e =
          let z = eqb-false n 0 e in
          ap (λ o. o.results) (both-refused results written [] a [] work n z) ∙ sym (ap (λ o. o.results) (both-refused results written [] b [] work n z))

-- ---- listing: 1, 3, 6, 7, 8 and 9 come before its lists are read
unfoldable pub sections_refusal : Bool → List ℕ → List ℕ → List ℕ → ℕ
sections_refusal right constraints b work =
    first_of (1 when not right ∷ bound_number constraints b ∷ 9 when ltb (length work) (2 * bound constraints b) ∷ [])

abbrev pub list_refusal : List ℕ → List ℕ → List ℕ → ℕ
list_refusal s b work = sections_refusal (header_right s) (constraint_part s) b work

-- the working room once it has been used: the first 2T words 0, the rest unchanged
unfoldable pub cleared : ℕ → List ℕ → List ℕ
cleared t work = replicate (2 * t) 0 ++ drop (2 * t) work

-- once none of these is given: 5, 10, then matches, node entries, edge entries and T
unfoldable pub read_outcome : List ℕ → ℕ → Option Gathered → List ℕ → List ℕ → Outcome
read_outcome b t none work room = refused 5 (0 ∷ 0 ∷ 0 ∷ 0 ∷ []) room (cleared t work)
read_outcome b t (some got) work room =
    outcome (cond (leb (length (matches_of b got) * size_of b) (length room)) 0 10)
    (length (matches_of b got) ∷ got.nodes ∷ got.edges ∷ t ∷ [])
    (flat_map (λ row. row) (matches_of b got)) room (cleared t work)

-- 10, said by what fits
fits-ten : (x y : ℕ) → ◌≡◌ {A = ℕ} (10 when ltb y x) (cond (leb x y) 0 10)
unfolding ◌when◌
fits-ten x y = go (dec_le x y)
  where
    go : Dec (x ≤ y) → ◌≡◌ {A = ℕ} (cond (ltb y x) 10 0) (cond (leb x y) 0 10)
    go (yes h) = rw (le-ltb y x h, le-leb x y h)
    go (no h) = rw (lt-ltb y x (omega arith), lt-leb x y (omega arith))

module _ (right : Bool) (constraints b work room : List ℕ) (read : Option Gathered) where
  abbrev ten : ℕ
  ten = 10 when ltb (length room) (length (matches_of b (got_of b read)) * size_of b)

  -- the order of listing is these, then 5 and 10
  number-parts : list_number right constraints b read work room ≡ first_of (sections_refusal right constraints b work ∷ 5 when unfit read ∷ ten ∷ [])
  unfolding list_number sections_refusal bound_number
  number-parts =
      sym (first-flat (1 when not right ∷ bound_number constraints b ∷ 9 when ltb (length work) (2 * bound constraints b) ∷ []) (5 when unfit read ∷ ten ∷ [])
      ∙ first-same (1 when not right) _ _ (first-flat _ (9 when ltb (length work) (2 * bound constraints b) ∷ 5 when unfit read ∷ ten ∷ [])))

  pub listed-refused : (sections_refusal right constraints b work ≡ 0 → ⊥) → list_number right constraints b read work room ≡ sections_refusal right constraints b work
  listed-refused n = number-parts ∙ first-given _ (5 when unfit read ∷ ten ∷ []) n

  listed-read : sections_refusal right constraints b work ≡ 0 → list_number right constraints b read work room ≡ first_of (5 when unfit read ∷ ten ∷ [])
  listed-read z = number-parts ∙ first-passed _ (5 when unfit read ∷ ten ∷ []) z

-- 5 and 10 are none of these numbers
neither-by : (c d e f g h : Bool)
    → has (first_of (1 when c ∷ first_of (3 when d ∷ 6 when e ∷ 7 when f ∷ 8 when g ∷ []) ∷ 9 when h ∷ [])) (5 ∷ 10 ∷ []) ≡ false
unfolding first_of ◌when◌ has
neither-by true d e f g h = refl
neither-by false true e f g h = refl
neither-by false false true f g h = refl
neither-by false false false true g h = refl
neither-by false false false false true h = refl
neither-by false false false false false true = refl
neither-by false false false false false false = refl

neither : (right : Bool) (constraints b work : List ℕ) → has (sections_refusal right constraints b work) (5 ∷ 10 ∷ []) ≡ false
unfolding sections_refusal bound_number
neither right constraints b work = neither-by _ _ _ _ _ _

pub refusal-five : (right : Bool) (constraints b work : List ℕ) → sections_refusal right constraints b work ≡ 5 → ⊥
unfolding has
refusal-five right constraints b work e = let k : true ≡ false = rw e at (neither right constraints b work) in true≢false k

-- ---- listing, by what comes before its lists are read
module _ (right : Bool) (constraints b work room : List ℕ) where
  -- the working room is left as it was
  unused : (n t : ℕ) → (n ≡ 0 → ⊥) → has n (5 ∷ 10 ∷ []) ≡ false → work_after n t work ≡ work
  unfolding work_after has
  unused n t z h = rw (ne_eqb n 0 z, h, work_after)

  refused-by : (n t : ℕ) (got : Gathered) → (n ≡ 0 → ⊥) → has n (5 ∷ 10 ∷ []) ≡ false → listed_by n b t got work room ≡ refused n (0 ∷ 0 ∷ 0 ∷ 0 ∷ []) room work
  unfolding listed_by refused
  refused-by n t got z h =
      rw (unused n t z h) (outcome-refused n (length (matches_of b got) ∷ got.nodes ∷ got.edges ∷ t ∷ []) (flat_map (λ row. row) (matches_of b got)) room work (ne_eqb n 0 z))

  refused-used : (t : ℕ) (results written : List ℕ) → outcome 5 results written room (work_after 5 t work) ≡ refused 5 results room (cleared t work)
  unfolding work_after cleared has
  refused-used t results written = outcome-refused 5 results written room (work_after 5 t work) refl

  used : (x : Bool) (t : ℕ) → work_after (cond x 0 10) t work ≡ cleared t work
  unfolding work_after cleared has
  used true t = refl
  used false t = refl

  read-by : (read : Option Gathered) → sections_refusal right constraints b work ≡ 0
      → listed_by (list_number right constraints b read work room) b (bound constraints b) (got_of b read) work room ≡ read_outcome b (bound constraints b) read work room
  unfolding listed_by read_outcome refused got_of unfit
  read-by none z =
      let n : list_number right constraints b none work room ≡ 5 = listed-read right constraints b work room none z ∙ refuses 5 true _ refl refl in
      rw n (refused-used _ _ _)
  read-by (some got) z =
      let n : list_number right constraints b (some got) work room ≡ cond (leb (length (matches_of b got) * size_of b) (length room)) 0 10 =
      listed-read right constraints b work room (some got) z ∙ passes 5 false _ refl ∙ first-last _ ∙ fits-ten (length (matches_of b got) * size_of b) (length room) in
      rw (n, used (leb (length (matches_of b got) * size_of b) (length room)) (bound constraints b))

-- where one of 1, 3, 6, 7, 8 and 9 is given, listing is refused with it
module _ (right : Bool) (nodes constraints groups entries b work room : List ℕ) where
  pub listing-refused : (sections_refusal right constraints b work ≡ 0 → ⊥)
      → sections_outcome right nodes constraints groups entries b work room ≡ refused (sections_refusal right constraints b work) (0 ∷ 0 ∷ 0 ∷ 0 ∷ []) room work
  unfolding sections_outcome
  listing-refused z =
      rw (listed-refused right constraints b work room (gathered nodes constraints groups entries b) z)
      (refused-by right constraints b work room (sections_refusal right constraints b work) (bound constraints b) (got_of b (gathered nodes constraints groups entries b)) z
      (neither right constraints b work))

  -- where none of them is, the lists are read
  pub listing-read : sections_refusal right constraints b work ≡ 0
      → sections_outcome right nodes constraints groups entries b work room ≡ read_outcome b (bound constraints b) (gathered nodes constraints groups entries b) work room
  unfolding sections_outcome
  listing-read z = read-by right constraints b work room (gathered nodes constraints groups entries b) z
