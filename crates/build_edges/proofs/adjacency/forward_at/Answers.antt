use Rattle.std.proofs.Common.{arith}
use Rattle.build_edges.proofs.Edges.{word-fits}
use Rattle.build_edges.proofs.adjacency.forward_at.Goals as goal

pub overflow_cast-result : goal.overflow_cast-result
overflow_cast-result c = omega (arith, c.wide_at.ensures, word-fits _ _ c.requires.1 c.requires.0)
