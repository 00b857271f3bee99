use Rattle.plan_ways.proofs.Looking.{from-first, to-first}
use Rattle.plan_ways.proofs.Lent.best_by.Goals.{then-from-to, else-from-to}
use Rattle.plan_ways.proofs.Lent.best_by.Goals as goal

pub returns : goal.returns
returns c =
    elim c.if-from-to.branch [
      | then-from-to w ↦
          from-first _ _ _ _ _ _ _ c.from-from.ensures c.to-to.ensures _ _ _
          w.if-from-to.true (rw w.low-is at c.way_by.ensures) (rw w.low-is at c.way_by-2.ensures) c.better.ensures
      | else-from-to w ↦
          to-first _ _ _ _ _ _ _ c.from-from.ensures c.to-to.ensures _ _ _
          w.if-from-to.false (rw w.low-is at c.way_by.ensures) (rw w.low-is at c.way_by-2.ensures) c.better.ensures
    ]
