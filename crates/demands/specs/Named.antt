-- Which nodes later rows leave alone, words of proofs/Named. Nothing is proved here.
use Rattle.std.proofs.Math.Path.{◌≡◌}
use Rattle.std.specs.Prelude.{ℕ}
use mathlib.Core.List.{List, [], ◌∷◌}
use Rattle.rules.specs.Plan.{chosen_of}
use Rattle.rules.specs.declared.Row.{Row}
use Rattle.laws.specs.Every.{Every}

-- ---- which nodes later rows leave alone
-- no node row of these fetches w
abbrev pub Leaves : ℕ → List Row → Type 0
Leaves w rows = Every (λ row. row.kind ≡ 0 → row.fetched ≡ w → ⊥) rows

-- the nodes that a row chooses from are fetched neither by it nor later
unfoldable pub Settled : List Row → Type 0
Settled [] = Unit {0}
Settled (row ∷ rows) = Every (λ w. Leaves w (row ∷ rows)) (chosen_of row) × Settled rows

-- rows of edges fetch no node
abbrev pub OfEdges : List Row → Type 0
OfEdges rows = Every (λ row. row.kind ≡ 1) rows
