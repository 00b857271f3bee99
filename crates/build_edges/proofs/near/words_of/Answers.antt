use Rattle.std.proofs.Common.{arith}
use Rattle.build_edges.proofs.Nearby.{words-found, found-order}
use Rattle.build_edges.proofs.near.words_of.Goals as goal

pub slice_bounds-result-count : goal.slice_bounds-result-count
slice_bounds-result-count c = found-order _ _ _ _ c.requires.1 c.lower_bound-start.ensures.0 c.lower_bound-end.ensures.0

pub slice_bounds-result-start : goal.slice_bounds-result-start
slice_bounds-result-start c =
    let h = found-order _ _ _ _ c.requires.1 c.lower_bound-start.ensures.0 c.lower_bound-end.ensures.0 in
    omega arith

pub returns : goal.returns
returns c = words-found _ _ _ _ c.requires.1 c.lower_bound-start.ensures.0 c.lower_bound-end.ensures.0
