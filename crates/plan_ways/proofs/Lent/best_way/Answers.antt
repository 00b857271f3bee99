use Rattle.std.proofs.Common.{rules, tests, refl}
use mathlib.Core.Bool.{cond, not}
use mathlib.Core.List.{[]}
use Rattle.rules.specs.Plan.{covered, node_ways}
use Rattle.plan_ways.proofs.Folding.{best-folded}
use Rattle.plan_ways.proofs.Looking.{all-flat}
use Rattle.plan_ways.proofs.Lent.best_way.Goals as goal

pub returns : goal.returns
returns c =
    let self = c.args.self in
    rw (← (all-flat self.constraints.now self.b.now self.figures.now), ← c.size_of.ensures)
    (best-folded (λ u. cond (not (covered self.figures.now u)) (node_ways self.constraints.now self.b.now self.figures.now u) []) _ _ _ c.fold.ensures.ran refl (λ a x b q k. search (rules, tests)))
