-- The pair of an entry, and the test that it passes, words of proofs/EdgeRows. Nothing is proved here.
use Rattle.std.specs.Prelude.{Bool, cond, ◌&&◌, ℕ, ◌+◌, ◌*◌, get_or}
use mathlib.Core.List.{List}
use Rattle.std.proofs.Math.Dec.{eqb}
use Rattle.rules.specs.Lists.{has}
use Rattle.rules.specs.Graph.{Graph}
use Rattle.rules.specs.Index.{directions_of}
use Rattle.rules.specs.Listing.{bit_set}

-- ---- one list
-- the pair of the key's node o and an entry v, by which way round
abbrev pub turned : Bool → ℕ → ℕ → ℕ × ℕ
turned t o v = cond t (o, v) (v, o)

-- the test that an entry v passes for a pair: v is a candidate, its bit is set, and with the key's node it is this pair
abbrev pub passes : Graph → List ℕ → List ℕ → ℕ → ℕ → ℕ → Bool → ℕ → Bool
passes g candidates key place x y t v =
    (has v candidates && cond t (bit_set (directions_of g key v) (2 * place)) (bit_set (directions_of g key v) (2 * place + 1)))
    && (eqb (turned t (get_or key place 0) v).0 x && eqb (turned t (get_or key place 0) v).1 y)
