use Rattle.std.proofs.Common.{ap}
use Rattle.build_edges.specs.Packed.{forward_at}
use Rattle.build_edges.proofs.adjacency.wide_at.Goals as goal

pub returns : goal.returns
unfolding forward_at
returns c = cc (ap (λ e. e.from) c.edge_at-edge.ensures, ap (λ e. e.to) c.edge_at-edge.ensures, c.from.ensures, c.from-2.ensures)
