use Rattle.std.proofs.Common.{rules, tests, refl}
use Rattle.rules.specs.Store.{constraint_right, constraints_right}
use Rattle.laws.specs.Chains.{all_from-answered}
use Rattle.store_records.proofs.constraints_right.Goals as goal

pub returns : goal.returns
unfolding constraints_right
returns c = all_from-answered (constraint_right c.args.constraints.now) _ _ _ c.all.ensures.ran refl (λ x b q k. search (rules, tests))
