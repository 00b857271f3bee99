use Rattle.build_longlist.proofs.Sifting.{Sifting}
use Rattle.build_longlist.proofs.exceed.sift.Given as goal

abbrev pub invariant-loop-i : goal.invariant-loop-i
invariant-loop-i l = Sifting l.joined l.list l.most l.fn.ids l.ids l.k l.i
