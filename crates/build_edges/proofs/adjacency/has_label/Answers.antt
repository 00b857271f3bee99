use Rattle.build_edges.specs.Packed.{has_label}
use Rattle.build_edges.proofs.adjacency.has_label.Goals as goal

pub returns : goal.returns
unfolding has_label
returns c = cc
