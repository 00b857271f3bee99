-- The match rule of a row, part by part, words of proofs/Matched. Nothing is proved here.
use Rattle.std.specs.Prelude.{◌≡◌, Bool, ◌&&◌, List, ℕ, ◌<◌, length}
use Rattle.std.proofs.Math.Bool.{true}
use Rattle.std.proofs.Math.Dec.{eqb}
use Rattle.rules.specs.Lists.{all_from}
use Rattle.rules.specs.Graph.{Graph}
use Rattle.rules.specs.Pattern.{size_of, edges_of, pattern_label, meets_both, pattern_from, pattern_to}
use Rattle.rules.specs.Match.{image, suits, alone}

-- ---- a node that suits
pub record Suited (g : Graph) (b : List ℕ) (u v : ℕ) : Type 0 where
  pub node : v < g.size
  pub label : g.label v ≡ pattern_label b u
  pub meet : meets_both b u (g.value v) ≡ true

-- ---- the parts of the rule, for any test of a node's image and of the images of an edge's ends
abbrev pub tested : (ℕ → ℕ → Bool) → (ℕ → ℕ → ℕ → Bool) → List ℕ → List ℕ → Bool
tested may has b row =
    eqb (length row) (size_of b) && all_from (λ u. may u (image row u)) 0 (size_of b)
    && all_from (alone row) 0 (size_of b)
    && all_from (λ j. has j (image row (pattern_from b j)) (image row (pattern_to b j))) 0 (edges_of b)

pub record Tested (may : ℕ → ℕ → Bool) (has : ℕ → ℕ → ℕ → Bool) (b row : List ℕ) : Type 0 where
  pub size : length row ≡ size_of b
  pub node : (u : ℕ) → u < size_of b → may u (image row u) ≡ true
  pub own : (u : ℕ) → u < size_of b → alone row u ≡ true
  pub edge : (j : ℕ) → j < edges_of b → has j (image row (pattern_from b j)) (image row (pattern_to b j)) ≡ true

-- ---- a match
abbrev pub Matched : Graph → List ℕ → List ℕ → Type 0
Matched g b row = Tested (suits g b) (λ j. g.edge) b row
