-- Words arranged so that the neighbours of one node with one label stand together.
use Rattle.std.specs.Prelude.{ℕ, ◌+◌, ◌*◌, ◌/◌, ◌%◌, ◌≤◌, ◌<◌, ◌≡◌, true, ◌&&◌, List, map, eqb}
use Rattle.rules.specs.Lists.{keep, has, set_of}
use Rattle.laws.specs.Strict.{Strict}
use Rattle.rules.specs.Store.{most_nodes, nodes_in, label_at}
use Rattle.build_edges.specs.Packed.{word_in, labelled_in}
use Rattle.build_edges.specs.Near.{is_labelled, Joined}
use Rattle.build_edges.specs.Starts.{Begun}
use Rattle.build_neighbours.specs.declared.Sides.{Sides}

-- the place of a word: its node, then the label and the id of its neighbour
unfoldable pub place_of : List ℕ → ℕ → ℕ
place_of nodes w = w / 65536 * 4294967296 + label_at nodes (w % 65536) * 65536 + w % 65536

abbrev pub places : List ℕ → List ℕ → List ℕ
places nodes words = map (place_of nodes) words

-- words whose places ascend, with nodes in their low halves
pub record Arranged (nodes words : List ℕ) : Type 0 where
  pub ascends : Strict (places nodes words)
  pub inside : (w : ℕ) → has w words ≡ true → w % 65536 < nodes_in nodes

-- the words of v and its neighbours labelled l
unfoldable pub side_in : List ℕ → List ℕ → ℕ → ℕ → List ℕ
side_in nodes words v l = keep (λ w. eqb (w / 65536) v && eqb (label_at nodes (w % 65536)) l) words

-- those neighbours, ascending
abbrev pub side_of : List ℕ → List ℕ → ℕ → ℕ → List ℕ
side_of nodes joined v l = keep (word_in joined v) (labelled_in nodes l)

-- the edges both ways round, arranged
pub record Held (nodes joined starts : List ℕ) : Type 0 where
  pub few : nodes_in nodes ≤ most_nodes
  pub arranged : Arranged nodes joined
  pub both : Joined (set_of joined)
  pub begun : Begun joined starts

abbrev pub Holds : Sides → Type 0
Holds sides = Held sides.nodes.now sides.joined.now sides.starts.now

-- an ascending list of nodes labelled l
pub record Listed (nodes : List ℕ) (l : ℕ) (list : List ℕ) : Type 0 where
  pub ascends : Strict list
  pub labelled : (v : ℕ) → has v list ≡ true → is_labelled nodes l v ≡ true
