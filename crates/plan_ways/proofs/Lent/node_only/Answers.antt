use Rattle.plan_ways.proofs.Choosing.{only-yes, only-no}
use Rattle.plan_ways.proofs.Lent.node_only.Goals as goal

pub returns-then-not-suits : goal.returns-then-not-suits
returns-then-not-suits c = only-no _ _ _ _ _ _ c.suits.ensures c.if-not-suits.true

pub returns : goal.returns
returns c = only-yes _ _ _ _ _ _ c.suits.ensures _ c.if-not-suits.false (cc)
