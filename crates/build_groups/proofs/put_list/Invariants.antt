-- proofs/put_list/Invariants.antt
use Rattle.std.proofs.Common.{◌+◌, ◌*◌, drop}
use Rattle.build_edges.specs.Packed.{forward_words}
use Rattle.build_groups.specs.Emit.{ids_of}
use Rattle.build_groups.proofs.Records.{Writing}
use Rattle.build_groups.proofs.put_list.Given as goal

abbrev pub invariant-loop-i : goal.invariant-loop-i
invariant-loop-i l = Writing (forward_words l.edges.records.now) (ids_of l.key) l.fn.room l.at l.list l.room (l.at + l.i * 8) (drop l.i l.list)
