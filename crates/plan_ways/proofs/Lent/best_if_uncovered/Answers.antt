use Rattle.std.proofs.Common.{refl}
use Rattle.plan_ways.proofs.Looking.{covered-none, uncovered-ways}
use Rattle.plan_ways.proofs.Lent.best_if_uncovered.Goals as goal

pub returns-then-self-u-ne0 : goal.returns-then-self-u-ne0
returns-then-self-u-ne0 c = covered-none _ _ _ _ _ c.if-self-u-ne0.true refl

pub returns : goal.returns
returns c = uncovered-ways _ _ _ _ _ c.if-self-u-ne0.false c.best_for_node.ensures
