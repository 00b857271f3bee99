use Rattle.std.proofs.Common.{rules}
use Rattle.build_edges.proofs.Starting.{run-order, run-top, run-found}
use Rattle.build_edges.proofs.starts.run_of.Goals as goal

pub slice_bounds-result-count : goal.slice_bounds-result-count
slice_bounds-result-count c = run-order c.requires.1 _ c.requires.0

pub slice_bounds-result-start : goal.slice_bounds-result-start
slice_bounds-result-start c =
    let o = run-order c.requires.1 _ c.requires.0 in
    let t = run-top c.requires.1 _ c.requires.0 in
    search rules

pub slice_bounds-result-end : goal.slice_bounds-result-end
slice_bounds-result-end c =
    let o = run-order c.requires.1 _ c.requires.0 in
    let t = run-top c.requires.1 _ c.requires.0 in
    search rules

pub returns : goal.returns
returns c = run-found c.requires.1 _ c.requires.0
