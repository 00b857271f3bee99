use Rattle.std.proofs.Common.{◌≡◌, ◌∙◌, sym, ◌<◌, arith, rules}
use Rattle.rules.specs.Store.{nodes_in}
use Rattle.rules.specs.Lists.{range}
use Rattle.laws.specs.Range.{length-range}
use Rattle.build_edges.specs.Packed.{has_label, labelled_in}
use Rattle.build_edges.proofs.Edges.{number-at}
use Rattle.build_edges.proofs.adjacency.labelled.Goals as goal

pub returns : goal.returns
unfolding labelled_in
returns c =
    let n = nodes_in c.args.nodes.now in (
      c.keep_front.ensures.within,
      c.keep_front.ensures.kept (range 0 n) (has_label c.args.nodes.now c.args.l) (length-range 0 n)
          (λ i r h called. let k : i < n = omega (arith, length-range 0 n) in let e : r ≡ i = search rules in e ∙ sym (number-at n i k)) (λ i x r h called tested. search rules),
    )
