use Rattle.std.proofs.Common.{eq-eqb, ◌∙◌}
use Rattle.plan_ways.specs.Ways.{slot_of}
use Rattle.plan_ways.proofs.Choosing.{slot-none, slot-some}
use Rattle.plan_ways.proofs.Ends.{slot-small}
use Rattle.plan_ways.proofs.Lent.slot.Goals as goal

pub returns-then-label-eq0-clause-value : goal.returns-then-label-eq0-clause-value
unfolding slot_of
returns-then-label-eq0-clause-value c = rw (eq-eqb c.args.label 0 c.if-label-eq0.true)

pub returns-in_err-best-clause-value : goal.returns-in_err-best-clause-value
returns-in_err-best-clause-value c = c.from_residual.ensures ∙ slot-none _ _ _ c.if-label-eq0.false c.least.ensures (c.in_err-best.was)

pub returns-clause-value : goal.returns-clause-value
returns-clause-value c = slot-some _ _ _ c.if-label-eq0.false c.least.ensures _ c.in_ok-best.was

pub returns-clause-small : goal.returns-clause-small
returns-clause-small c =
    let self = c.args.self in
    rw (← (slot-some _ _ _ c.if-label-eq0.false c.least.ensures _ c.in_ok-best.was)) at (slot-small self.b.now self.figures.now c.args.u c.args.label c.args.other self.ready.small)
