-- The search begins where no step is kept. Assumes nothing.
use Rattle.laws.specs.Cases.{decide}
use Rattle.store_finger.specs.Path.{start_at}
use Rattle.store_finger.proofs.start_at.Goals as goal

pub returns-then-n-eq0 : goal.returns-then-n-eq0
unfolding start_at
returns-then-n-eq0 c = search decide

pub returns : goal.returns
unfolding start_at
returns c = search decide
