use Rattle.rules.specs.Store.{edge_right}
use Rattle.laws.specs.Cases.{decide}
use Rattle.store_records.proofs.edge_right.Goals as goal

pub returns-then-i-eq0 : goal.returns-then-i-eq0
unfolding edge_right
returns-then-i-eq0 c = search decide

pub returns-else-i-eq0 : goal.returns-else-i-eq0
unfolding edge_right
returns-else-i-eq0 c = search decide

pub returns-else-edge_alone : goal.returns-else-edge_alone
unfolding edge_right
returns-else-edge_alone c = search decide
