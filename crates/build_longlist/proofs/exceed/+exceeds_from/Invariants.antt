use Rattle.std.proofs.Common.{length}
use Rattle.build_edges.specs.Packed.{word_in, labelled_in}
use Rattle.build_neighbours.specs.Left.{labels_in}
use Rattle.build_longlist.specs.Exceed.{long_from}
use Rattle.build_longlist.proofs.Exceeding.{Trying}
use Rattle.build_longlist.proofs.exceed.+exceeds_from.Given as goal

abbrev pub decreases-exceeds_from : goal.decreases-exceeds_from
decreases-exceeds_from l = length (labels_in l.left)

abbrev pub invariant-loop-x : goal.invariant-loop-x
invariant-loop-x l =
    Trying l.nodes l.joined l.left l.most l.list l.x-items l.x-index l.none (long_from (word_in l.joined) (labelled_in l.nodes) l.most (labels_in l.left) l.list)
