use Rattle.std.proofs.Common.{drop}
use Rattle.rules.specs.Lists.{set_of}
use Rattle.build_edges.specs.Packed.{word_in, labelled_in}
use Rattle.build_neighbours.specs.Useful.{reaches}
use Rattle.build_neighbours.specs.Left.{labels_in}
use Rattle.build_neighbours.proofs.Beside.{Asking}
use Rattle.build_neighbours.proofs.side.has_each.Given as goal

abbrev pub invariant-loop-label : goal.invariant-loop-label
invariant-loop-label l = Asking l.sides.nodes.now l.sides.joined.now l.v (reaches (word_in (set_of l.sides.joined.now)) (labelled_in l.sides.nodes.now) (labels_in l.fn.left) l.v) (drop l.label-index l.label-items)
