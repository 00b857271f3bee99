use Rattle.std.proofs.Common.{◌≡◌, ◌<◌, ◌∙◌, sym, arith, rules}
use Rattle.rules.specs.Store.{edges_in, from_at}
use Rattle.build_edges.specs.Packed.{forward_words}
use Rattle.build_edges.proofs.Edges.{length-edges}
use Rattle.build_edges.proofs.Starting.{strict-climbs, edge-high}
use Rattle.build_edges.proofs.starts.put_begins.Goals as goal

pub returns : goal.returns
returns c =
    let edges = c.args.edges.now in
    let pre = c.requires in
    c.put_by.ensures (forward_words edges) (length-edges edges) (strict-climbs _ pre.1.1)
    (λ i r h called. let k : i < edges_in edges = omega (arith, length-edges edges) in let e : r ≡ from_at edges i = search rules in e ∙ sym (edge-high edges i pre.1.0 k))
