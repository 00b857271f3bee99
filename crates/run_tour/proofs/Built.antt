-- What building tells fits the room. Assumes nothing.
use Prim.Native.Nat.{ℕ, ◌≤◌}
use native.Mathlib.Omega.{arith}
use mathlib.Core.Path.{◌≡◌, refl, sym, ap, ◌∙◌}
use mathlib.Core.Bool.{Bool, true, false, not}
use mathlib.Core.List.{List, [], ◌∷◌}
use lib.Dec.{eqb}
use lib.ListN.{length, get_or}
use lib.Seq.{length-take-le}
use borrow.Author.Tests.{eqb-true, ltb-false}
use Rattle.rules.specs.Store.{draft_right}
use Rattle.rules.specs.Index.{store_of}
use Rattle.rules.specs.Answers.{Outcome, build_number, build_outcome}
use Rattle.laws.specs.Outcomes.{answered, refused, outcome-answered, outcome-refused}
use Rattle.laws.specs.Refusals.{none-first, none-given, graph_number, build-number}
use Rattle.io.specs.Counts.{IsPrefixLen}

-- the length told, as the first result
abbrev first : Outcome → ℕ
first o = get_or o.results 0 0

-- the number 0 is given only where the store fits
zero-fits : (draft room : List ℕ) → build_number draft room ≡ 0 → length (store_of draft) ≤ length room
zero-fits draft room q =
    let one = none-given 1 (not (draft_right draft)) _ refl (sym (build-number draft room) ∙ q) in
    ltb-false _ _ (none-given 10 _ [] refl (none-first (graph_number draft) _ one.1).1).0

-- so the length told is at most the room's
first-fits : (draft room : List ℕ) → first (build_outcome draft room) ≤ length room
unfolding build_outcome answered refused
first-fits draft room = go (eqb (build_number draft room) 0) refl
  where
    go : (x : Bool) → eqb (build_number draft room) 0 ≡ x → first (build_outcome draft room) ≤ length room
    go true e =
        let z = eqb-true (build_number draft room) 0 e in
        rw (z, outcome-answered (length (store_of draft) ∷ []) (store_of draft) room []) (zero-fits draft room z)
    go false e = rw (outcome-refused (build_number draft room) (length (store_of draft) ∷ []) (store_of draft) room [] e) (omega arith)

-- what building gives back, as an outcome
abbrev told : ℕ → ℕ → List ℕ → Outcome
told number n after = record { number = number; results = n ∷ []; room = after; second = []; work = [] }

pub built-fits : (draft room after : List ℕ) (number n : ℕ) → told number n after ≡ build_outcome draft room → length after ≡ length room → IsPrefixLen n after
built-fits draft room after number n is size =
    let fits : n ≤ length after = omega (arith, ap first is, first-fits draft room) in
    (fits, sym (length-take-le n after fits))
