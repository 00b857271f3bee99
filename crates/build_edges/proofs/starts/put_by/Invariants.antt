use Rattle.std.proofs.Common.{◌≡◌, ℕ, ◌≤◌, List, length}
use Rattle.build_edges.specs.Starts.{Climbs, Highs}
use Rattle.build_edges.proofs.Starting.{Starting}
use Rattle.build_edges.proofs.starts.put_by.Given as goal

-- whatever words the closure reads, the starts below v are written
abbrev pub invariant-loop-i : goal.invariant-loop-i
invariant-loop-i g l = record {
  most : l.v ≤ 65536;
  state : (words : List ℕ) → length words ≡ l.count → Climbs words → Highs (goal.F-post g l.high) words → Starting words l.starts l.v l.i;
}
