use Rattle.std.proofs.Common.{arith, ap₂, ◌∙◌}
use Rattle.build_neighbours.specs.Side.{side_in}
use Rattle.build_neighbours.proofs.Sought.{ends-order, side-found}
use Rattle.build_neighbours.proofs.side.side.Goals as goal

pub slice_bounds-result-count : goal.slice_bounds-result-count
slice_bounds-result-count c = ends-order _ _ _ _ _ _ c.requires.1 c.lower_place-start.ensures.0 c.lower_place-end.ensures.0

pub slice_bounds-result-start : goal.slice_bounds-result-start
slice_bounds-result-start c = let h = ends-order _ _ _ _ _ _ c.requires.1 c.lower_place-start.ensures.0 c.lower_place-end.ensures.0 in omega arith

pub returns : goal.returns
returns c =
    let l = c.from-2.ensures in
    side-found _ _ c.from.result c.from-2.result _ _ c.requires.1 c.lower_place-start.ensures.0 c.lower_place-end.ensures.0 (λ i. let k = c.type_inv.nodes i in omega arith) (omega arith)
    ∙ ap₂ (side_in c.args.nodes.now c.args.words.now) c.from.ensures l
