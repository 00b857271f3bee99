-- proofs/walks/+walk/Invariants.antt
use Rattle.std.proofs.Common.{◌-◌, length}
use Rattle.rules.specs.Lists.{set_of}
use Rattle.build_edges.specs.Packed.{forward_words}
use Rattle.build_neighbours.specs.Left.{labels_in}
use Rattle.build_groups.specs.Emit.{going}
use Rattle.build_keys.proofs.Going.{WalkGoing}
use Rattle.build_keys.proofs.walks.+walk.Given as goal

abbrev pub decreases-walk : goal.decreases-walk
decreases-walk l = length (labels_in l.left)

abbrev pub invariant-loop-i : goal.invariant-loop-i
invariant-loop-i l =
    WalkGoing l.work.task l.lists.above l.work.graph.nodes.now (set_of l.work.graph.joined.now) (forward_words l.work.graph.edges.records.now) l.left l.key l.at l.list l.work.store.now (going l.fn.tally) l.fn.room l.first l.n l.i (going l.t) l.room

abbrev pub decreases-loop-i : goal.decreases-loop-i
decreases-loop-i l = l.n - l.i
