use Rattle.std.proofs.Common.{rules, tests, refl}
use Rattle.rules.specs.Plan.{covered}
use Rattle.laws.specs.Chains.{all_from-answered}
use Rattle.plan_cover.proofs.nodes_covered.Goals as goal

pub returns : goal.returns
returns c = rw (← c.size_of.ensures) (all_from-answered (covered c.args.figures.now) _ _ _ c.all.ensures.ran refl (λ x b q k. search (rules, tests)))
