use Rattle.build_longlist.proofs.Counts.{Counting}
use Rattle.build_longlist.proofs.counting.counts_exceed.Given as goal

abbrev pub invariant-loop-v : goal.invariant-loop-v
invariant-loop-v l = Counting l.nodes l.joined l.s l.most l.list l.counts l.v-index
