-- The room has its length by one law, without being written out. Assumes nothing.
use Rattle.laws.specs.Rooms.{new-long, new-fits}
use Rattle.run_limits.proofs.main.Goals as goal

pub slice_bounds-cases-end : goal.slice_bounds-cases-end
slice_bounds-cases-end c = new-long 524336 0

pub cases-requires : goal.cases-requires
cases-requires c = new-fits 524336 0
