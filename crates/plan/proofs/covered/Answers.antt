use Rattle.std.proofs.Common.{◌∙◌}
use Rattle.plan.proofs.Planning.{plan-seven, plan-bounded}
use Rattle.plan.proofs.Complete.{plan-complete}
use Rattle.plan.proofs.covered.Goals as goal

pub returns-then-found-rows_length : goal.returns-then-found-rows_length
returns-then-found-rows_length c =
    let given = c.args.asked.given in
    rw c.in-Ok.is (plan-complete _ _ given.right given.known.few _ _ (rw c.in-Ok.is at c.bounded-size.ensures) c.rows_length.ensures c.if-found-rows_length.true)

pub returns-then-not-all_covered : goal.returns-then-not-all_covered
returns-then-not-all_covered c = plan-seven _ _ _ c.all_covered.ensures c.if-not-all_covered.true

pub returns : goal.returns
returns c = c.bounded-size.ensures ∙ plan-bounded _ _ _ c.all_covered.ensures c.if-not-all_covered.false
