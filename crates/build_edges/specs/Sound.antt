-- The edges of a store as words, each both ways round, and the stores that have them.
use Rattle.std.specs.Prelude.{ℕ, ◌≤◌, List, ◌++◌, map, length}
use Rattle.rules.specs.Lists.{range, set_of}
use Rattle.laws.specs.Strict.{Strict}
use Rattle.rules.specs.Store.{most_constraints, most_edges, most_nodes, edges_in, nodes_in, constraints_in, groups_at, node_part, edge_part, constraint_part}
use Rattle.build_edges.specs.Packed.{backward_at, EdgesBelow, forward_words}

-- the edges as words, each both ways round, ascending
unfoldable pub joined_set : List ℕ → List ℕ
joined_set edges = set_of (forward_words edges ++ map (backward_at edges) (range 0 (edges_in edges)))

-- a store whose sections are there and whose edges, as words, ascend
pub record Sound (s : List ℕ) : Type 0 where
  pub long : groups_at s ≤ length s
  pub nodes : nodes_in (node_part s) ≤ most_nodes
  pub edges : edges_in (edge_part s) ≤ most_edges
  pub constraints : constraints_in (constraint_part s) ≤ most_constraints
  pub below : EdgesBelow (edge_part s)
  pub ascends : Strict (forward_words (edge_part s))
