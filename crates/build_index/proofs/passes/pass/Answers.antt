-- proofs/passes/pass/Answers.antt
use Rattle.std.proofs.Common.{rules}
use Rattle.laws.specs.Rooms.{new-fits, new-long}
use Rattle.build_edges.proofs.Sections.{edges-fit}
use Rattle.build_keys.proofs.Index.{right-sound}
use Rattle.build_keys.proofs.Graphs.{own-both}
use Rattle.build_index.proofs.Visiting.{ready-pass, pass-done}
use Rattle.build_index.proofs.passes.pass.Goals as goal

pub node_part-nodes-requires : goal.node_part-nodes-requires
node_part-nodes-requires c =
    let long = (right-sound c.requires.0.right).long in
    search rules

pub edge_part-edges-requires : goal.edge_part-edges-requires
edge_part-edges-requires c =
    let long = (right-sound c.requires.0.right).long in
    search rules

pub constraint_part-constraints-requires : goal.constraint_part-constraints-requires
constraint_part-constraints-requires c =
    let long = (right-sound c.requires.0.right).long in
    search rules

pub slice_bounds-put_starts-end : goal.slice_bounds-put_starts-end
slice_bounds-put_starts-end c = new-long 65536 0

pub slice_bounds-put_begins-end : goal.slice_bounds-put_begins-end
slice_bounds-put_begins-end c = new-long 65536 0

pub put_begins-requires : goal.put_begins-requires
put_begins-requires c =
    let e = edges-fit _ _ c.edge_part-edges.ensures (right-sound c.requires.0.right) in
    ((e.0, new-fits 65536 0), e.1)

pub visit_all-requires : goal.visit_all-requires
visit_all-requires c =
    let p = c.requires in
    let sound = right-sound p.0.right in
    (rw c.constraint_part-constraints.ensures sound.constraints, ready-pass _ _ _ _ c.node_part-nodes.ensures c.edge_part-edges.ensures sound p.0.arranged (own-both _ sound p.0.words) c.put_starts.ensures c.put_begins.ensures p.1 (new-fits 327680 0))

pub returns : goal.returns
returns c =
    pass-done _ _ _ _ _ _ _ _ _ c.node_part-nodes.ensures c.edge_part-edges.ensures c.constraint_part-constraints.ensures c.requires.0.words c.visit_all.ensures
