use Rattle.std.proofs.Common.{rules, tests, refl}
use mathlib.Core.List.{flat_map}
use Rattle.rules.specs.Plan.{ends_of, end_ways}
use Rattle.plan_ways.proofs.Folding.{best-folded}
use Rattle.plan_ways.proofs.Looking.{edge-flat}
use Rattle.plan_ways.proofs.Lent.best_for_edge.Goals as goal

pub returns : goal.returns
returns c =
    let self = c.args.self in
    rw (← (edge-flat self.constraints.now self.b.now self.figures.now c.args.j))
    (best-folded (λ k. flat_map (end_ways self.constraints.now self.b.now self.figures.now c.args.j k) (ends_of self.b.now c.args.j)) _ _ _ c.fold.ensures.ran refl (λ a x b q k. search (rules, tests)))
