use Rattle.std.proofs.Common.{arith, sym}
use Rattle.laws.specs.Covering.{next-says}
use Rattle.plan_rows.proofs.Nodes.{nodes-start, nodes-next, nodes-above, nodes-stop, nodes-end}
use Rattle.plan_rows.proofs.node_rows.Goals as goal

pub loop-init : goal.loop-init
loop-init c = nodes-start _ _ _

-- no way is found
pub returns-in_default : goal.returns-in_default
returns-in_default c = nodes-stop c.loop.invariant c.args.asked.given.known.few (omega arith) c.in_default.ensures

-- a figure is above 65,536
pub returns-in_err-push : goal.returns-in_err-push
returns-in_err-push c = nodes-above c.loop.invariant c.in-Some.row _ _ (omega arith) c.in-Some.ensures c.in_err-push.ensures (omega arith) c.from_residual.ensures.0

pub bounds-stand-row : goal.bounds-stand-row
bounds-stand-row c =
    let h = (next-says _ _ _ c.in-Some.row (sym c.in-Some.ensures)).node in
    omega (arith, c.args.asked.given.known.few)

pub loop-preserved : goal.loop-preserved
loop-preserved c = nodes-next c.loop.invariant c.in-Some.row _ c.push.new.self (omega arith) c.in-Some.ensures (omega arith) c.in_ok-push.ensures

-- each node has its row
pub returns : goal.returns
returns c = nodes-end c.loop.invariant c.args.asked.given.known.few (omega arith)
