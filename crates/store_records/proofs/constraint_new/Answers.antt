use Rattle.std.proofs.Common.{rules, tests, refl, not}
use Rattle.rules.specs.Store.{constraint_at, alike}
use Rattle.laws.specs.Chains.{all_from-answered}
use Rattle.store_records.proofs.constraint_new.Goals as goal

pub returns : goal.returns
returns c =
    all_from-answered
    (λ d. not (alike (constraint_at c.args.constraints.now d) (constraint_at c.args.constraints.now c.args.c)))
    _ _ _ c.all.ensures.ran refl (λ x b q k. search (rules, tests))
