use Rattle.std.proofs.Common.{arith}
use Rattle.plan.proofs.Planning.{nodes-above, edges-above, sum_above, rows-told}
use Rattle.plan.proofs.bounded.Goals as goal

pub returns-in_default : goal.returns-in_default
returns-in_default c = nodes-above _ _ _ _ _ c.in_default.ensures

pub returns-in_default-edge_rows : goal.returns-in_default-edge_rows
returns-in_default-edge_rows c = edges-above _ _ _ _ _ c.in-Ok.ensures _ _ c.in_default-edge_rows.ensures

pub returns-then-above : goal.returns-then-above
returns-then-above c = sum_above _ _ _ _ _ c.in-Ok.ensures _ _ c.in-Ok-edge_rows.ensures (omega arith)

pub returns : goal.returns
returns c = rows-told _ _ _ _ _ c.in-Ok.ensures _ _ c.in-Ok-edge_rows.ensures c.requires (omega arith)
