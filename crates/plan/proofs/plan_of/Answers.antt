use Rattle.std.proofs.Common.{sym, ◌∙◌}
use Rattle.laws.specs.Table.{right-ends}
use Rattle.plan.proofs.Planning.{given-of, plan-three, plan-six, plan-on}
use Rattle.plan.proofs.plan_of.Goals as goal

pub returns-then-not-constraints_right : goal.returns-then-not-constraints_right
returns-then-not-constraints_right c = plan-three _ _ _ c.constraints_right.ensures c.if-not-constraints_right.true

pub returns-then-not-pattern_right : goal.returns-then-not-pattern_right
returns-then-not-pattern_right c =
    plan-six _ _ _ c.constraints_right.ensures c.if-not-constraints_right.false _ c.pattern_right.ensures c.if-not-pattern_right.true

pub neighbours-t-requires : goal.neighbours-t-requires
neighbours-t-requires c = right-ends _ (sym c.pattern_right.ensures ∙ c.if-not-pattern_right.false)

pub invariant_of-asked : goal.invariant_of-asked
invariant_of-asked c =
    record { given = given-of _ _ _ c.requires.few (sym c.constraints_right.ensures ∙ c.if-not-constraints_right.false) (sym c.pattern_right.ensures ∙ c.if-not-pattern_right.false) c.neighbours-t.ensures }

pub returns : goal.returns
returns c =
    c.covered.ensures ∙ plan-on _ _ _ c.constraints_right.ensures c.if-not-constraints_right.false _ c.pattern_right.ensures c.if-not-pattern_right.false
