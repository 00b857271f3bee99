use Rattle.std.proofs.Common.{◌≡◌, ◌<◌, sym, ◌∙◌, arith, rules}
use Rattle.rules.specs.Store.{edges_in}
use Rattle.build_edges.specs.Packed.{forward_at, forward_words}
use Rattle.build_edges.proofs.Edges.{length-edges, edge-word}
use Rattle.build_edges.proofs.adjacency.stands_in.Goals as goal

pub returns : goal.returns
returns c =
    let edges = c.args.edges.now in
    c.stands_at.ensures (forward_words edges) (length-edges edges) (λ i r h called. let k : i < edges_in edges = omega (arith, length-edges edges) in let e : r ≡ forward_at edges i = search rules in e ∙ sym (edge-word edges i k))
