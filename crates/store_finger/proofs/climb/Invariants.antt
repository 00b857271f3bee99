-- The steps from here on do not serve the key; those before are fewer than are kept. Assumes nothing.
use Rattle.std.proofs.Common.{◌≤◌}
use Rattle.store_finger.proofs.climb.Given as goal

abbrev pub invariant-loop-kept : goal.invariant-loop-kept
invariant-loop-kept l = l.kept ≤ l.finger.count
