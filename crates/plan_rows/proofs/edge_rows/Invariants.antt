use Rattle.plan_rows.proofs.Edges.{EdgesGoing}
use Rattle.plan_rows.proofs.edge_rows.Given as goal

abbrev pub invariant-loop-j : goal.invariant-loop-j
invariant-loop-j l = EdgesGoing l.asked.constraints.now l.asked.b.now l.fn.nodes l.fn.rows l.rows l.j l.stand
