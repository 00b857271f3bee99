-- The bytes before the one at hand are written, and the room around them is as it was.
use Rattle.std.proofs.Common.{◌≡◌}
use lib.Seq.{paste}
use Rattle.build_groups.proofs.put_bytes.Given as goal

abbrev pub invariant-loop-i : goal.invariant-loop-i
invariant-loop-i l = l.room ≡ paste l.fn.room l.at l.bytes l.i
