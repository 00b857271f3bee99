-- What writing over a room leaves, and the state of a loop that writes. Assumes nothing.
use Rattle.std.specs.Prelude.{ℕ, ◌+◌, ◌≤◌, ◌<◌, ◌≡◌, refl, List, [], ◌∷◌, ◌++◌, length, set}
use Rattle.std.proofs.Common.{sym, ◌∙◌, length-append, length-set, arith}
use Rattle.rules.specs.Words.{over}
use Rattle.laws.specs.Over.{over-nil, over-over, over-push}

-- a text was written over a room from a place on: the room as it is left, its length, and the place past the text
pub record Wrote (before : List ℕ) (at : ℕ) (text after : List ℕ) (past : ℕ) : Type 0 where
  pub room : after ≡ over before at text
  pub size : length after ≡ length before
  pub place : past ≡ at + length text

-- one text after the other is the two together
module _ (before : List ℕ) (at : ℕ) (a : List ℕ) (middle : List ℕ) (there : ℕ) (first : Wrote before at a middle there) (fits : there ≤ length before) where
  pub wrote-then : (b after : List ℕ) (past : ℕ) → Wrote middle there b after past → Wrote before at (a ++ b) after past
  wrote-then b after past next =
      record {
        room = next.room ∙ rw (first.room, first.place, over-over before at a (omega (arith, first.place)) b);
        size = next.size ∙ first.size;
        place = omega (arith, length-append a b, next.place, first.place);
      }

-- what is still to be written decides the whole: the room and the place once all of it is there
pub record Writing (before : List ℕ) (at : ℕ) (text : List ℕ) (left out : List ℕ) (here : ℕ) : Type 0 where
  pub whole : over out here left ≡ over before at text
  pub size : length out ≡ length before
  pub place : here + length left ≡ at + length text

pub writing-start : (before : List ℕ) (at : ℕ) (text : List ℕ) → Writing before at text text before at
writing-start before at text = record { whole = refl; size = refl; place = refl }

module _ {before : List ℕ} {at : ℕ} {text : List ℕ} where
  pub writing-next : {a rest out : List ℕ} {here : ℕ} → Writing before at text (a ++ rest) out here → here + length a ≤ length out → {after : List ℕ} {past : ℕ} → Wrote out here a after past → Writing before at text rest after past
  writing-next {a} {rest} {out} {here} w fits next =
      record {
        whole = rw (next.room, next.place, over-over out here a fits rest) w.whole;
        size = next.size ∙ w.size;
        place = omega (arith, length-append a rest, next.place, w.place);
      }

  -- one word stored
  pub writing-word : {x : ℕ} {rest out : List ℕ} {here : ℕ} → Writing before at text (x ∷ rest) out here → here < length out → Writing before at text rest (set out here x) (here + 1)
  writing-word {x} {rest} {out} {here} w fits =
      record {
        whole = over-push out here x rest fits ∙ w.whole;
        size = length-set out here x ∙ w.size;
        place = omega (arith, w.place);
      }

  pub writing-done : {out : List ℕ} {here : ℕ} → Writing before at text [] out here → Wrote before at text out here
  writing-done {out} {here} w =
      record { room = sym (over-nil out here) ∙ w.whole; size = w.size; place = omega (arith, w.place) }
