use Rattle.order_search.proofs.Keeping.{Keeping}
use Rattle.order_search.proofs.dedup.Given as goal

abbrev pub invariant-loop-i : goal.invariant-loop-i
invariant-loop-i l = Keeping l.fn.words l.words l.last l.kept l.i
