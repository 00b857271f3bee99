use Rattle.std.proofs.Common.{◌∙◌}
use Rattle.build_edges.proofs.Edges.{no-word, the-word}
use Rattle.build_edges.proofs.Beginnings.{among-own}
use Rattle.build_edges.proofs.adjacency.edge_in.Goals as goal

pub returns-in_default : goal.returns-in_default
returns-in_default c = no-word _ _ _ c.in_default.ensures

pub returns-then-u-ge65535 : goal.returns-then-u-ge65535
returns-then-u-ge65535 c = rw c.from.ensures at c.stands_in.ensures ∙ the-word _ _ _ c.in-Some.ensures

pub returns : goal.returns
returns c =
    let w = c.in-Some.ensures in
    rw (c.from-2.ensures, w.1.1) at c.stands_in-2.ensures ∙ among-own c.requires _ _ c.edges_of.ensures w.0 w.1.0
