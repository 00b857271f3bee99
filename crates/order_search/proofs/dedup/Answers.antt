use Rattle.std.proofs.Common.{arith}
use Rattle.order_search.proofs.Keeping.{none, begun, skipped, kept-one, ended}
use Rattle.order_search.proofs.dedup.Goals as goal
use Rattle.order_search.proofs.dedup.Goals.{then-last-x, else-last-x}

pub returns-then-words-eq0 : goal.returns-then-words-eq0
returns-then-words-eq0 c = none _ c.if-words-eq0.true

pub loop-i-init : goal.loop-i-init
loop-i-init c = begun _ (omega arith)

pub loop-i-preserved : goal.loop-i-preserved
loop-i-preserved c =
    elim c.if-last-x.branch [
      | then-last-x w ↦ rw (w.words-is, w.last-is, w.kept-is) (kept-one c.loop-i.invariant (omega arith) w.if-last-x.true)
      | else-last-x w ↦ rw (w.words-is, w.last-is, w.kept-is) (skipped c.loop-i.invariant (omega arith) w.if-last-x.false)
    ]

pub returns : goal.returns
returns c = ended c.loop-i.invariant (omega arith)
