use Rattle.build_longlist.proofs.Counts.{Meeting}
use Rattle.build_longlist.proofs.counting.count_near.Given as goal

abbrev pub invariant-loop-w : goal.invariant-loop-w
invariant-loop-w l = Meeting l.nodes l.s l.most l.words l.fn.counts l.counts l.w-index
