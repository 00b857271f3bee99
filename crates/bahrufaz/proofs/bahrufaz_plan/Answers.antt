use Rattle.bahrufaz.proofs.Eight.{gives, figure-told}
use Rattle.bahrufaz.proofs.bahrufaz_plan.Goals as goal

pub returns : goal.returns
returns c =
    let told = figure-told (λ x p. p) _ _ _ _ c.number_of.ensures c.unwrap_or_default.ensures c.plan-planned.ensures in
    gives _ _ _ _ _ told c.give.ensures
