-- What is written is what f made, and the room behind it is as it was.
use Rattle.std.proofs.Common.{◌≡◌, ℕ, ◌<◌, get_or, drop}
use Rattle.build_neighbours.proofs.mapping.map_into.Given as goal

abbrev pub invariant-loop-i : goal.invariant-loop-i
invariant-loop-i g l = record {
  made : (k : ℕ) → k < l.i → goal.F-post g l.f (get_or l.words k 0) (get_or l.out k 0);
  kept : drop l.i l.out ≡ drop l.i l.fn.out;
}
