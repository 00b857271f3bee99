-- The words before the index are marked, and from it on they are as they were.
use Rattle.std.proofs.Common.{◌≡◌, ℕ, ◌+◌, ◌*◌, ◌<◌, ◌≤◌, get_or}
use Rattle.build_neighbours.proofs.pairs.mark.Given as goal

abbrev pub invariant-loop-w : goal.invariant-loop-w
invariant-loop-w l = record {
  marked : (k : ℕ) → k < l.w-index → get_or l.words k 0 ≡ get_or l.fn.words k 0 * 65536 + 65535;
  ahead : (k : ℕ) → l.w-index ≤ k → get_or l.words k 0 ≡ get_or l.fn.words k 0;
}
