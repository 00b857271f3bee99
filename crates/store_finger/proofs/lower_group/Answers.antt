-- The one whose key the other does not precede. Assumes nothing.
use Rattle.store_finger.proofs.Keeping.{keeping}
use Rattle.store_finger.proofs.lower_group.Goals as goal

pub returns-then-passes : goal.returns-then-passes
returns-then-passes c = search keeping

pub returns : goal.returns
returns c = search keeping
