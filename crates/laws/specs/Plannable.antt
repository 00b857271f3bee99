-- What the numbers 3, 6, 7 and 8 of constraints and a pattern say. Assumes nothing.
use Rattle.std.specs.Prelude.{◌≡◌, refl, true, List, [], ℕ, ◌≤◌}
use Rattle.std.proofs.lemmas.Bool.{not-false}
use Rattle.std.proofs.Common.{ltb-false}
use Rattle.rules.specs.Store.{constraints_right}
use Rattle.rules.specs.Pattern.{pattern_right}
use Rattle.rules.specs.Plan.{most_read, all_covered, bound}
use Rattle.laws.specs.Refusals.{none-given, bound_number}

-- constraints and pattern for which none of them is given
pub record Plannable (constraints b : List ℕ) : Type 0 where
  pub right : constraints_right constraints ≡ true
  pub pattern : pattern_right b ≡ true
  pub covers : all_covered constraints b ≡ true
  pub small : bound constraints b ≤ most_read

pub bound-zero : (constraints b : List ℕ) → bound_number constraints b ≡ 0 → Plannable constraints b
unfolding bound_number
bound-zero constraints b q =
    let three = none-given 3 _ _ refl q in
    let six = none-given 6 _ _ refl three.1 in
    let seven = none-given 7 _ _ refl six.1 in
    record {
      right = not-false _ three.0;
      pattern = not-false _ six.0;
      covers = not-false _ seven.0;
      small = ltb-false _ _ (none-given 8 _ [] refl seven.1).0;
    }
