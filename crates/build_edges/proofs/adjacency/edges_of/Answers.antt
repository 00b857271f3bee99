use Rattle.std.proofs.Common.{rules, arith}
use Rattle.build_edges.proofs.Beginnings.{begins-order, begins-top, edges-found}
use Rattle.build_edges.proofs.adjacency.edges_of.Goals as goal

pub slice_bounds-result-count : goal.slice_bounds-result-count
slice_bounds-result-count c = let o = begins-order c.requires.1 _ c.requires.0 in omega arith

pub slice_bounds-result-start : goal.slice_bounds-result-start
slice_bounds-result-start c =
    let o = begins-order c.requires.1 _ c.requires.0 in
    let t = begins-top c.requires.1 _ c.requires.0 in
    search rules

pub slice_bounds-result-end : goal.slice_bounds-result-end
slice_bounds-result-end c = let t = begins-top c.requires.1 _ c.requires.0 in search rules

pub returns : goal.returns
returns c = edges-found c.requires.1 _ c.requires.0
