-- Text as bytes, and what writing it over a room leaves.
use Rattle.std.specs.Prelude.{ℕ, zero, suc, ◌+◌, ◌/◌, ◌%◌, true, false, List, [], ◌∷◌, ◌++◌, ltb}

-- a number of at most k decimal digits, as text
unfoldable pub decimal_in : ℕ → ℕ → List ℕ
decimal_in zero n = []
decimal_in (suc k) n = elim (ltb n 10) [ true ↦ (48 + n) ∷ [] | false ↦ decimal_in k (n / 10) ++ ((48 + n % 10) ∷ []) ]

-- a number below 2^64 in decimal digits: 20 are always enough
unfoldable pub decimal : ℕ → List ℕ
decimal n = decimal_in 20 n
