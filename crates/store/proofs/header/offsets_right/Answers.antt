use Rattle.rules.specs.Store.{offsets_right}
use Rattle.store.proofs.header.offsets_right.Goals as goal

pub returns : goal.returns
unfolding offsets_right
returns c = cc
