-- The graph of a store: what matches, keys and lists speak of.
use Rattle.std.specs.Prelude.{ℕ, Bool, ◌&&◌, ◌||◌, eqb}
use Rattle.rules.specs.Words.{Bytes, Section, Ids}
use Rattle.rules.specs.Lists.{any_from, range, keep}
use Rattle.rules.specs.Store.{nodes_in, edges_in, label_at, value_at, from_at, to_at, node_part, edge_part}

-- nodes 0 to size - 1, a label and a value for each, and which edges there are
pub record Graph : Type 0 where
  pub size : ℕ
  pub label : ℕ → ℕ
  pub value : ℕ → ℕ
  pub edge : ℕ → ℕ → Bool

-- some edge record goes from u to v
unfoldable pub edge_in : Section → ℕ → ℕ → Bool
edge_in edges u v = any_from (λ i. eqb (from_at edges i) u && eqb (to_at edges i) v) 0 (edges_in edges)

-- the graph of a node section and an edge section
unfoldable pub graph_of : Section → Section → Graph
graph_of nodes edges = record { size = nodes_in nodes; label = label_at nodes; value = value_at nodes; edge = edge_in edges }

-- the graph of a store
unfoldable pub store_graph : Bytes → Graph
store_graph s = graph_of (node_part s) (edge_part s)

-- neighbours are joined by an edge either way
unfoldable pub neighbours : Graph → ℕ → ℕ → Bool
neighbours g u v = g.edge u v || g.edge v u

-- the nodes labelled l, ascending
unfoldable pub labelled : Graph → ℕ → Ids
labelled g l = keep (λ v. eqb (g.label v) l) (range 0 g.size)
