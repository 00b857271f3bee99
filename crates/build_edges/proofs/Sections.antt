-- Laws of the edges of a sound store, and of rooms that are long enough. Assumes nothing.
use native.Mathlib.Omega.{arith}
use mathlib.Core.Path.{◌≡◌}
use mathlib.Core.List.{List}
use Prim.Native.Nat.{ℕ, ◌*◌, ◌≤◌}
use Rattle.laws.specs.Strict.{Strict}
use Rattle.rules.specs.Store.{most_edges, edges_in, edge_part}
use Rattle.build_edges.specs.Packed.{EdgesBelow, forward_words}
use Rattle.build_edges.specs.Sound.{Sound}

pub edges-fit : (r s : List ℕ) → r ≡ edge_part s → Sound s → (edges_in r ≤ most_edges) × (EdgesBelow r × Strict (forward_words r))
edges-fit r s e d = (rw e d.edges, (rw e d.below, rw e d.ascends))

pub twice-fits : (n m : ℕ) → n ≤ 262144 → 524288 ≤ m → n * 2 ≤ m
twice-fits n m h k = omega arith
