-- What right constraints are: N, and each by itself. Assumes nothing.
use Rattle.std.specs.Prelude.{◌≡◌, true, not, ◌&&◌, List, ℕ, ◌≤◌, ◌<◌, eqb, leb}
use Rattle.std.proofs.Common.{arith, leb-true}
use Rattle.rules.specs.Store.{constraints_in, constraint_at, label_after, constraint_alone, constraint_right, constraints_right}
use Rattle.rules.specs.declared.Constraint.{Constraint}
use Rattle.laws.specs.Cases.{first-holds, second-holds}
use Rattle.laws.specs.Each.{all-each}

-- N of a right constraint is at least 1
pub most-positive : (d : Constraint) → constraint_alone d ≡ true → 0 < d.most
unfolding constraint_alone
most-positive d h =
    let o = label_after d.first d.second && label_after d.second d.third && not (eqb d.label 0) in
    leb-true 1 d.most (second-holds o _ (first-holds (o && leb 1 d.most) _ h))

pub most-small : (d : Constraint) → constraint_alone d ≡ true → d.most ≤ 65535
unfolding constraint_alone
most-small d h =
    let o = label_after d.first d.second && label_after d.second d.third && not (eqb d.label 0) in
    leb-true d.most 65535 (second-holds (o && leb 1 d.most) _ h)

pub alone-of : (constraints : List ℕ) → constraints_right constraints ≡ true → (c : ℕ) → c < constraints_in constraints → constraint_alone (constraint_at constraints c) ≡ true
unfolding constraints_right constraint_right
alone-of constraints h c l = first-holds _ _ (all-each (constraint_right constraints) 0 (constraints_in constraints) h c (omega arith) (omega arith))

-- N is at least 1
pub most-right : (constraints : List ℕ) → constraints_right constraints ≡ true → (c : ℕ) → c < constraints_in constraints → 1 ≤ (constraint_at constraints c).most
unfolding constraints_right constraint_right
most-right constraints h c l =
    most-positive (constraint_at constraints c)
    (first-holds (constraint_alone (constraint_at constraints c)) _ (all-each (constraint_right constraints) 0 (constraints_in constraints) h c (omega arith) (omega arith)))
