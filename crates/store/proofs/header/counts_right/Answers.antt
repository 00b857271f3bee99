use Rattle.rules.specs.Store.{counts_right}
use Rattle.store.proofs.header.counts_right.Goals as goal

pub returns : goal.returns
unfolding counts_right
returns c = cc
