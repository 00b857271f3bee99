use Rattle.plan_cover.proofs.Told.{CoverLeft}
use Rattle.plan_cover.proofs.cover.Given as goal

abbrev pub invariant-loop : goal.invariant-loop
invariant-loop l = CoverLeft l.asked.constraints.now l.asked.b.now l.counter l.figures
