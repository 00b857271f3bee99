use Rattle.plan_rows.proofs.Nodes.{NodesGoing}
use Rattle.plan_rows.proofs.node_rows.Given as goal

abbrev pub invariant-loop : goal.invariant-loop
invariant-loop l = NodesGoing l.asked.constraints.now l.asked.b.now l.fn.rows l.rows l.counter l.stand
