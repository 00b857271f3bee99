use Rattle.std.proofs.Common.{rules, tests, refl}
use Rattle.rules.specs.Plan.{edge_covered}
use Rattle.laws.specs.Chains.{all_from-answered}
use Rattle.plan_cover.proofs.edges_covered.Goals as goal

pub returns : goal.returns
returns c =
    rw (← c.edges_of.ensures)
    (all_from-answered (edge_covered c.args.asked.constraints.now c.args.asked.b.now c.args.figures.now) _ _ _ c.all.ensures.ran refl (λ x b q k. search (rules, tests)))
