use Rattle.std.proofs.Common.{◌+◌, ◌*◌, ◌≤◌, length, arith}
use Rattle.plan_rows.proofs.Edges.{edges-start, edges-next, edges-skip, edges-above, edges-done}
use Rattle.plan_rows.proofs.edge_rows.Goals.{in-Some+in_ok-push, in_default}
use Rattle.plan_rows.proofs.edge_rows.Goals as goal

pub loop-j-init : goal.loop-j-init
loop-j-init c = edges-start _ _ _ _ c.requires.0.figures

-- a figure is above 65,536
pub returns-in_err-push : goal.returns-in_err-push
returns-in_err-push c = edges-above c.loop-j.invariant c.in-Some.row _ _ (omega arith) c.in-Some.ensures c.in_err-push.ensures (omega arith) c.from_residual.ensures.0

pub loop-j-preserved : goal.loop-j-preserved
loop-j-preserved c =
    elim c.match-best_for_edge.branch [
      | in-Some+in_ok-push w ↦
          let room : c.loop-j.stand.count * 8 + 8 ≤ length c.loop-j.rows = omega arith in
          rw (w.rows-is, w.stand-is) (edges-next c.loop-j.invariant w.in-Some.row _ w.push.new.self (omega arith) w.in-Some.ensures room w.in_ok-push.ensures)
      | in_default w ↦ rw (w.rows-is, w.stand-is) (edges-skip c.loop-j.invariant (omega arith) w.in_default.ensures)
    ]

-- each edge has had its turn
pub returns : goal.returns
returns c = edges-done c.loop-j.invariant c.requires.0 c.args.asked.given.known.edges (omega arith)
