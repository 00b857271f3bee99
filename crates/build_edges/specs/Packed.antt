-- Edges as packed words: an edge from u to v is the word u * 65,536 + v. Ids are below 65,536.
use Rattle.std.specs.Prelude.{ℕ, ◌+◌, ◌*◌, ◌<◌, Bool, ◌&&◌, List, map, ltb, eqb}
use Rattle.rules.specs.Lists.{range, keep}
use Rattle.rules.specs.Store.{from_at, to_at, edges_in, nodes_in, label_at}
use Rattle.laws.specs.Searching.{stands_in}

-- edge i as a word, and the other way round
unfoldable pub forward_at : List ℕ → ℕ → ℕ
forward_at edges i = from_at edges i * 65536 + to_at edges i

unfoldable pub backward_at : List ℕ → ℕ → ℕ
backward_at edges i = to_at edges i * 65536 + from_at edges i

-- the edges as words
unfoldable pub forward_words : List ℕ → List ℕ
forward_words edges = map (forward_at edges) (range 0 (edges_in edges))

-- both ends of every edge are below 65,536
pub record EdgesBelow (edges : List ℕ) : Type 0 where
  pub from : (i : ℕ) → i < edges_in edges → from_at edges i < 65536
  pub to : (i : ℕ) → i < edges_in edges → to_at edges i < 65536

-- the word of u and v is found among the words
unfoldable pub word_in : List ℕ → ℕ → ℕ → Bool
word_in ws u v = ltb u 65536 && ltb v 65536 && stands_in (u * 65536 + v) ws

-- node v is labelled l
unfoldable pub has_label : List ℕ → ℕ → ℕ → Bool
has_label nodes l v = eqb (label_at nodes v) l

-- the nodes labelled l, ascending
unfoldable pub labelled_in : List ℕ → ℕ → List ℕ
labelled_in nodes l = keep (has_label nodes l) (range 0 (nodes_in nodes))
