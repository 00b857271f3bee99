-- A step goes up where the middle precedes the key, and down elsewhere. Assumes nothing.
use Rattle.store_finger.proofs.Keeping.{keeping}
use Rattle.store_finger.proofs.step.Goals as goal

pub returns-then-group_precedes : goal.returns-then-group_precedes
returns-then-group_precedes c = search keeping

pub returns : goal.returns
returns c = search keeping
