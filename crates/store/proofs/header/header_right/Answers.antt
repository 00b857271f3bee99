use Rattle.rules.specs.Store.{header_right}
use Rattle.laws.specs.Cases.{decide}
use Rattle.store.proofs.header.header_right.Goals as goal

pub returns-then-s-ge48 : goal.returns-then-s-ge48
unfolding header_right
returns-then-s-ge48 c = search decide

pub returns-else-s-ge48 : goal.returns-else-s-ge48
unfolding header_right
returns-else-s-ge48 c = search decide
