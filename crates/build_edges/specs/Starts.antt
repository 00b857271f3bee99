-- Where the words of each node start.
use Rattle.std.specs.Prelude.{ℕ, ◌/◌, ◌≤◌, ◌<◌, ◌≡◌, List, ltb, length, get_or}
use Rattle.rules.specs.Lists.{keep}
use Rattle.laws.specs.Strict.{Strict}
use Rattle.build_edges.specs.Packed.{forward_words}

-- how many words have a node below v in their high half
unfoldable pub start_of : List ℕ → ℕ → ℕ
start_of words v = length (keep (λ w. ltb (w / 65536) v) words)

-- high halves never descend
pub record Climbs (words : List ℕ) : Type 0 where
  pub up : (i j : ℕ) → i ≤ j → j < length words → get_or words i 0 / 65536 ≤ get_or words j 0 / 65536

-- it reads the high halves of the words
abbrev pub Highs : (ℕ → ℕ → Type 0) → List ℕ → Type 0
Highs post words = (i r : ℕ) → i < length words → post i r → r ≡ get_or words i 0 / 65536

-- it is at hand where the words of each node start
pub record Begun (words starts : List ℕ) : Type 0 where
  pub climbs : Climbs words
  pub long : 65536 ≤ length starts
  pub at : (v : ℕ) → v < 65536 → get_or starts v 0 ≡ start_of words v

-- x is written from place `from` to before `to`, and what stands before is as it was
pub record Filled (from to x : ℕ) (before after : List ℕ) : Type 0 where
  pub front : (i : ℕ) → i < from → get_or after i 0 ≡ get_or before i 0
  pub run : (i : ℕ) → from ≤ i → i < to → get_or after i 0 ≡ x

-- edges that ascend, and where those of each node start
pub record Edged (edges begins : List ℕ) : Type 0 where
  pub ascends : Strict (forward_words edges)
  pub begun : Begun (forward_words edges) begins
