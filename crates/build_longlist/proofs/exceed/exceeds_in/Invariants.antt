use Rattle.rules.specs.Store.{constraints_in}
use Rattle.laws.specs.Loops.{AnyLeft}
use Rattle.build_longlist.specs.Exceed.{exceeds_at, exceeds_in}
use Rattle.build_longlist.proofs.exceed.exceeds_in.Given as goal

abbrev pub invariant-loop-c : goal.invariant-loop-c
invariant-loop-c l = AnyLeft (exceeds_at l.nodes l.joined l.constraints) (constraints_in l.constraints) l.c (exceeds_in l.nodes l.joined l.constraints)
