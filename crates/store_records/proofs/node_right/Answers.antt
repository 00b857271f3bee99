use Rattle.rules.specs.Store.{node_right}
use Rattle.store_records.proofs.node_right.Goals as goal

pub returns : goal.returns
unfolding node_right
returns c = cc
