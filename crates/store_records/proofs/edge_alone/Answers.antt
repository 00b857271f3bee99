use Rattle.rules.specs.Store.{edge_alone}
use Rattle.store_records.proofs.edge_alone.Goals as goal

pub returns : goal.returns
unfolding edge_alone
returns c = cc
