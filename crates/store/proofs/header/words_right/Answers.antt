use Rattle.rules.specs.Store.{words_right}
use Rattle.store.proofs.header.words_right.Goals as goal

pub returns : goal.returns
unfolding words_right
returns c = cc
