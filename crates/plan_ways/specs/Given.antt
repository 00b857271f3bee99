-- What is known once constraints and pattern are right. Assumes nothing.
use Rattle.std.specs.Prelude.{ℕ, ◌≤◌, ◌≡◌, Bool, true, List}
use Rattle.rules.specs.Store.{constraints_in, constraints_right}
use Rattle.laws.specs.Constraints.{alone-of}
use Rattle.plan_ways.specs.Ways.{Known, Small, WaysReady}

-- right constraints, not too many, and what is known of the pattern and its table; unlike laws/Plannable, nothing is covered yet
pub record Given (constraints b : List ℕ) (t : List (List Bool)) : Type 0 where
  pub known : Known b t
  pub count : constraints_in constraints ≤ 65535
  pub right : constraints_right constraints ≡ true

-- with small figures ways can be sought
pub given-ready : {constraints b : List ℕ} {t : List (List Bool)} {figures : List ℕ} → Given constraints b t → Small figures → WaysReady constraints b t figures
given-ready g s = record { known = g.known; small = s; count = g.count; alone = alone-of _ g.right }
