-- The length that building tells is inside the room. Assumes nothing.
use Rattle.run_tour.proofs.Built.{built-fits}
use Rattle.run_tour.proofs.build_store.Goals as goal

pub returns : goal.returns
returns g c = built-fits _ _ _ _ _ c.build-built.ensures c.build-built.auto.room
