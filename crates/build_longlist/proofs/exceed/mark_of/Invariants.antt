use Rattle.std.proofs.Common.{◌<◌}
use Rattle.build_longlist.proofs.exceed.mark_of.Given as goal

abbrev pub invariant-loop-v : goal.invariant-loop-v
invariant-loop-v l = l.mark < 65536
