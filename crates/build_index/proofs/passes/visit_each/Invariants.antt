-- proofs/passes/visit_each/Invariants.antt
use Rattle.rules.specs.Lists.{set_of}
use Rattle.build_edges.specs.Packed.{forward_words}
use Rattle.build_neighbours.specs.Left.{labels_in}
use Rattle.build_groups.specs.Emit.{going}
use Rattle.build_index.proofs.Visiting.{Left, whole_of}
use Rattle.build_index.proofs.passes.visit_each.Given as goal

abbrev pub invariant-loop-u : goal.invariant-loop-u
invariant-loop-u l =
    Left l.work.task l.lists.above l.work.graph.nodes.now (set_of l.work.graph.joined.now) (forward_words l.work.graph.edges.records.now) (labels_in l.left) l.key l.lists.label l.s l.work.store.now
    (whole_of l.work.task l.lists.above l.work.graph.nodes.now (set_of l.work.graph.joined.now) (forward_words l.work.graph.edges.records.now) (labels_in l.left) l.key l.lists.label l.s l.work.store.now (going l.fn.tally) l.fn.room) l.u (going l.t) l.room
