-- A group that is there is tested. Assumes nothing.
use Rattle.store_finger.proofs.Keeping.{keeping}
use Rattle.store_finger.proofs.passes.Goals as goal

pub returns-in_default : goal.returns-in_default
returns-in_default c = search keeping

pub returns-then-groups-i : goal.returns-then-groups-i
returns-then-groups-i c = search keeping

pub returns : goal.returns
returns c = search keeping
