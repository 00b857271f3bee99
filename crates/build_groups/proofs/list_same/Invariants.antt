-- proofs/list_same/Invariants.antt
use Rattle.std.proofs.Common.{◌+◌, ◌*◌, length, drop}
use Rattle.rules.specs.Words.{part}
use Rattle.rules.specs.Answers.{same}
use Rattle.build_edges.specs.Packed.{forward_words}
use Rattle.build_groups.specs.Emit.{ids_of, list_records}
use Rattle.build_groups.proofs.Comparing.{Entries}
use Rattle.build_groups.proofs.list_same.Given as goal

abbrev pub invariant-loop-i : goal.invariant-loop-i
invariant-loop-i l =
    Entries (forward_words l.edges.records.now) (ids_of l.key) l.store (same (part l.store l.at (l.at + length l.list * 8)) (list_records (forward_words l.edges.records.now) (ids_of l.key) l.list)) (l.at + l.i * 8) (drop l.i l.list)
