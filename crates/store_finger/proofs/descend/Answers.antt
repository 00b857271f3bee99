-- The search is at its end where nothing is left. Assumes nothing.
use Rattle.laws.specs.Halving.{half-done}
use Rattle.store_finger.proofs.descend.Goals as goal

pub returns : goal.returns
returns c = (half-done c.loop-at.invariant.0.left c.loop-at-test.false, c.loop-at.invariant.1)
