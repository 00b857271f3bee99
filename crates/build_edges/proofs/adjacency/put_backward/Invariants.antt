use Rattle.build_edges.specs.Packed.{backward_at}
use Rattle.build_edges.proofs.Filling.{Filling}
use Rattle.build_edges.proofs.adjacency.put_backward.Given as goal

abbrev pub invariant-loop-i : goal.invariant-loop-i
invariant-loop-i l = Filling (backward_at l.edges) l.i-end l.fn.out l.out l.i
