-- The search for the kept key stands at a place that is nearer to its end with each turn. Assumes nothing.
use Rattle.std.proofs.Common.{◌≡◌, ◌-◌}
use Rattle.store_finger.specs.Path.{PathGoing, Path}
use Rattle.store_finger.proofs.descend.Given as goal

abbrev pub invariant-loop-at : goal.invariant-loop-at
invariant-loop-at l = PathGoing l.groups l.key l.at × Path l.groups l.finger × (l.finger.key ≡ l.key)

abbrev pub decreases-loop-at : goal.decreases-loop-at
decreases-loop-at l = l.at.high - l.at.low
