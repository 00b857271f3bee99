-- The bytes read so far are inside the room; what is left of it falls.
use Rattle.std.proofs.Common.{length, ◌-◌, ◌≤◌}
use Rattle.run_files.proofs.read_full.Given as goal

abbrev pub invariant-loop-done : goal.invariant-loop-done
invariant-loop-done g l = l.done ≤ length l.room

abbrev pub decreases-loop-done : goal.decreases-loop-done
decreases-loop-done g l = length l.initial.room - l.done
