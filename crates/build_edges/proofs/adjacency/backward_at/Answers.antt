use Rattle.std.proofs.Common.{ap}
use Rattle.build_edges.specs.Packed.{backward_at}
use Rattle.build_edges.proofs.adjacency.backward_at.Goals as goal

pub returns : goal.returns
unfolding backward_at
returns c = cc (ap (λ e. e.from) c.edge_at-edge.ensures, ap (λ e. e.to) c.edge_at-edge.ensures)
