-- What the number of a listing says of the tests behind it, and what an answered listing gives. Assumes nothing.
use native.Mathlib.Omega.{arith}
use Rattle.std.proofs.Math.Path.{◌≡◌, refl, sym}
use Rattle.std.proofs.Common.{ap, ◌∙◌}
use Rattle.std.specs.Prelude.{Bool, not, ℕ, ◌*◌, leb, length}
use Rattle.std.proofs.Math.Bool.{true, false}
use mathlib.Core.List.{List, [], ◌∷◌, flat_map}
use Rattle.std.proofs.Math.Option.{Option, some, none}
use Rattle.std.proofs.Math.Dec.{eqb}
use borrow.Author.Tests.{eqb-true, eqb-false, not-false, ltb-false}
use Rattle.rules.specs.Words.{over}
use Rattle.rules.specs.Store.{header_right, node_part, constraint_part, group_part, entry_part}
use Rattle.rules.specs.Pattern.{size_of}
use Rattle.rules.specs.Plan.{bound}
use Rattle.rules.specs.Listing.{Gathered, matches_of}
use Rattle.rules.specs.Answers.{Outcome, list_outcome}
use Rattle.laws.specs.Outcomes.{answered, refused, cleared, read_outcome, sections_refusal, list_refusal, listing-refused, listing-read, outcome-answered, outcome-number}
use Rattle.laws.specs.Refusals.{none-first, none-given, bound_number}
use Rattle.laws.specs.Plannable.{bound-zero}
use Rattle.demands.specs.Answered.{Heard, gathered_of}

-- ---- 1 and 9
pub refusal-zero : (s b work : List ℕ) → list_refusal s b work ≡ 0 → Heard s b work
unfolding sections_refusal
refusal-zero s b work q =
    let one = none-given 1 (not (header_right s)) _ refl q in
    let plan = none-first (bound_number (constraint_part s) b) _ one.1 in
    record {
      header = not-false _ one.0;
      plan = bound-zero (constraint_part s) b plan.0;
      enough = ltb-false _ _ (none-given 9 _ [] refl plan.1).0;
    }

-- ---- the outcome
module _ (s b work room : List ℕ) where
  -- where none of 1, 3, 6, 7, 8 and 9 is given, the lists are read
  pub list-heard : list_refusal s b work ≡ 0 → list_outcome s b work room ≡ read_outcome b (bound (constraint_part s) b) (gathered_of s b) work room
  unfolding list_outcome
  list-heard q = listing-read (header_right s) (node_part s) (constraint_part s) (group_part s) (entry_part s) b work room q

  -- else it is refused with this number
  pub list-refused : (list_refusal s b work ≡ 0 → ⊥) → list_outcome s b work room ≡ refused (list_refusal s b work) (0 ∷ 0 ∷ 0 ∷ 0 ∷ []) room work
  unfolding list_outcome
  list-refused n = listing-refused (header_right s) (node_part s) (constraint_part s) (group_part s) (entry_part s) b work room n

  -- an answered listing was not refused
  pub answered-heard : (list_outcome s b work room).number ≡ 0 → list_refusal s b work ≡ 0
  unfolding refused
  answered-heard q = go (eqb (list_refusal s b work) 0) refl
    where
      go : (t : Bool) → eqb (list_refusal s b work) 0 ≡ t → list_refusal s b work ≡ 0
      go true e = eqb-true (list_refusal s b work) 0 e
      go false e = sym (ap (λ o. o.number) (list-refused (eqb-false (list_refusal s b work) 0 e))) ∙ q

-- ---- by what is read
module _ (b : List ℕ) (t : ℕ) (work room : List ℕ) where
  abbrev fitting : Gathered → Bool
  fitting got = leb (length (matches_of b got) * size_of b) (length room)

  -- the answer
  abbrev pub answer_of : Gathered → Outcome
  answer_of got = record {
    number = 0;
    results = length (matches_of b got) ∷ got.nodes ∷ got.edges ∷ t ∷ [];
    room = over room 0 (flat_map (λ row. row) (matches_of b got));
    second = [];
    work = cleared t work;
  }

  -- an answered one has read all its lists, and has given the answer
  pub record Given (o : Option Gathered) (x : Outcome) : Type 0 where
    pub got : Gathered
    pub read : o ≡ some got
    pub same : x ≡ answer_of got

  read-given : (o : Option Gathered) → (read_outcome b t o work room).number ≡ 0 → Given o (read_outcome b t o work room)
  unfolding read_outcome refused
  read-given none q = absurd (omega (arith, q))
  read-given (some got) q = go (fitting got) refl
    where
      go : (f : Bool) → fitting got ≡ f → Given (some got) (read_outcome b t (some got) work room)
      go true e = record { got = got; read = refl; same = unfold answered in rw e (outcome-answered _ _ _ _) }
      go false e = absurd (let k : ◌≡◌ {A = ℕ} 10 0 = sym (outcome-number 10 _ _ _ room) ∙ rw e at q in omega arith)

  -- one that has read all its lists does not give 5
  pub read-five : (got : Gathered) → (read_outcome b t (some got) work room).number ≡ 5 → ⊥
  unfolding read_outcome refused
  read-five got q = go (fitting got) refl
    where
      go : (f : Bool) → fitting got ≡ f → ⊥
      go true e = let k : ◌≡◌ {A = ℕ} 0 5 = sym (outcome-number 0 _ _ _ room) ∙ rw e at q in omega arith
      go false e = let k : ◌≡◌ {A = ℕ} 10 5 = sym (outcome-number 10 _ _ _ room) ∙ rw e at q in omega arith

-- what an answered listing says
pub record Answer (s b work room : List ℕ) : Type 0 where
  pub heard : Heard s b work
  pub given : Given b (bound (constraint_part s) b) work room (gathered_of s b) (list_outcome s b work room)

pub answer : (s b work room : List ℕ) → (list_outcome s b work room).number ≡ 0 → Answer s b work room
answer s b work room q =
    let zero_is = answered-heard s b work room q in
    let opened = list-heard s b work room zero_is in
    let x = read-given b (bound (constraint_part s) b) work room (gathered_of s b) (rw opened at q) in
    record { heard = refusal-zero s b work zero_is; given = record { got = x.got; read = x.read; same = opened ∙ x.same } }
