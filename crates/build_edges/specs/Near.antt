-- The nodes near a list, found from the words of its own nodes.
use Rattle.std.specs.Prelude.{ℕ, ◌+◌, ◌*◌, ◌≡◌, Bool, false, ◌&&◌, ltb}
use mathlib.Core.List.{List, [], flat_map}
use Rattle.rules.specs.Lists.{keep}
use Rattle.laws.specs.Strict.{Strict}
use Rattle.rules.specs.Store.{nodes_in}
use Rattle.laws.specs.Searching.{between}
use Rattle.laws.specs.Lows.{lows}
use Rattle.build_edges.specs.Packed.{word_in, has_label, labelled_in}

-- the words with u in their high half
unfoldable pub words_of : List ℕ → ℕ → List ℕ
words_of words u = keep (between (u * 65536) ((u + 1) * 65536)) words

-- the neighbours of all nodes of a list, one node after another
unfoldable pub near_of : List ℕ → List ℕ → List ℕ
near_of joined list = flat_map (λ v. lows (words_of joined v)) list

-- u is a node labelled l
unfoldable pub is_labelled : List ℕ → ℕ → ℕ → Bool
is_labelled nodes l u = ltb u (nodes_in nodes) && has_label nodes l u

-- words that ascend, each with its reverse
pub record Joined (joined : List ℕ) : Type 0 where
  pub strict : Strict joined
  pub both : (u v : ℕ) → word_in joined u v ≡ word_in joined v u

-- what is tried of the nodes labelled l: all but some that are joined with no node of the list
pub record Tried (nodes joined : List ℕ) (l : ℕ) (list tried : List ℕ) : Type 0 where
  pub test : ℕ → Bool
  pub rest : (u : ℕ) → test u ≡ false → keep (word_in joined u) list ≡ []
  pub all : tried ≡ keep test (labelled_in nodes l)
