use Rattle.std.proofs.Common.{rules, tests, refl}
use Rattle.std.specs.Prelude.{None}
use Rattle.plan_ways.specs.Ways.{rows_by}
use Rattle.plan_ways.proofs.Folding.{best-folded}
use Rattle.plan_ways.proofs.Looking.{node-flat}
use Rattle.plan_ways.proofs.Lent.best_for_node.Goals as goal

pub returns : goal.returns
returns c =
    let self = c.args.self in
    rw (← (node-flat self.constraints.now self.b.now self.figures.now c.args.u))
    (best-folded (λ k. rows_by self.constraints.now self.b.now self.figures.now 0 c.args.u c.args.u k None) _ _ _ c.fold.ensures.ran refl (λ a x b q k. search (rules, tests)))
