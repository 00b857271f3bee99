-- Nodes that are in the list of a whole key: those with a neighbour of each label.
use Rattle.std.specs.Prelude.{ℕ, Bool, List}
use Rattle.rules.specs.Lists.{all, any}

-- v is joined with one of the nodes of each label
unfoldable pub reaches : (ℕ → ℕ → Bool) → (ℕ → List ℕ) → List ℕ → ℕ → Bool
reaches joined labelled labels v = all (λ s. any (λ u. joined u v) (labelled s)) labels
