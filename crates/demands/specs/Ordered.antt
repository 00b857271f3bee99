-- How two rows stand to one another, a word of proofs/Ordered. Nothing is proved here.
use Rattle.std.specs.Prelude.{◌≡◌, true, false, List, ℕ}
use Rattle.demands.specs.Exactly.{before}

-- ---- the order of rows
-- of two rows, one comes before the other or they are equal, and not both ways
pub data Compared (a b : List ℕ) : Type 0 where
  first : before a b ≡ true → before b a ≡ false → Compared a b
  equal : a ≡ b → Compared a b
  second : before b a ≡ true → before a b ≡ false → Compared a b
