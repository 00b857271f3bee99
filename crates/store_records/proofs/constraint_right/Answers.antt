use Rattle.rules.specs.Store.{constraint_right}
use Rattle.laws.specs.Cases.{decide}
use Rattle.store_records.proofs.constraint_right.Goals as goal

pub returns-then-constraint_alone : goal.returns-then-constraint_alone
unfolding constraint_right
returns-then-constraint_alone c = search decide

pub returns-else-constraint_alone : goal.returns-else-constraint_alone
unfolding constraint_right
returns-else-constraint_alone c = search decide
