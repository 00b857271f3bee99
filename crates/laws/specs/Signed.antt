-- The order of signed numbers, through their words. Assumes nothing.
use Rattle.std.specs.Prelude.{◌≡◌, Bool, true, false, cond, ℕ, ◌+◌, ◌-◌, ◌<◌, ◌≤◌, ltb}
use Rattle.std.proofs.Math.Decide.{dec_le}
use Rattle.std.proofs.Common.{arith, lt-ltb, le-ltb}
use Rattle.rules.specs.Words.{signed}

-- a word below 2^31 is the number itself, which stands 2^31 above the lowest one
pub signed-from-zero : (w : ℕ) → w < 2147483648 → signed w ≡ w + 2147483648
unfolding signed
signed-from-zero w h = omega arith

-- any other word is the number 2^32 below it
pub signed-below-zero : (w : ℕ) → 2147483648 ≤ w → w < 4294967296 → signed w ≡ w - 2147483648
unfolding signed
signed-below-zero w h k = omega arith

-- a comes before b as signed numbers: one below zero comes before one from zero on, and within each kind the words decide
unfoldable pub signed_before : ℕ → ℕ → Bool
signed_before a b =
    cond (ltb a 2147483648) (cond (ltb b 2147483648) (ltb a b) false) (cond (ltb b 2147483648) true (ltb a b))

pub signed-order : (a b : ℕ) → a < 4294967296 → b < 4294967296 → ltb (signed a) (signed b) ≡ signed_before a b
unfolding signed_before
signed-order a b ha hb = go (dec_le 2147483648 a) (dec_le 2147483648 b) (dec_le b a)
  where
    go : Dec (2147483648 ≤ a) → Dec (2147483648 ≤ b) → Dec (b ≤ a)
        → ltb (signed a) (signed b) ≡ cond (ltb a 2147483648) (cond (ltb b 2147483648) (ltb a b) false) (cond (ltb b 2147483648) true (ltb a b))
    go (yes x) (yes y) (yes z) = rw (signed-below-zero a x ha, signed-below-zero b y hb, le-ltb a 2147483648 x, le-ltb b 2147483648 y, le-ltb a b z) (le-ltb (a - 2147483648) (b - 2147483648) (omega arith))
    go (yes x) (yes y) (no z) = rw (signed-below-zero a x ha, signed-below-zero b y hb, le-ltb a 2147483648 x, le-ltb b 2147483648 y, lt-ltb a b (omega arith)) (lt-ltb (a - 2147483648) (b - 2147483648) (omega arith))
    go (yes x) (no y) z = rw (signed-below-zero a x ha, signed-from-zero b (omega arith), le-ltb a 2147483648 x, lt-ltb b 2147483648 (omega arith)) (lt-ltb (a - 2147483648) (b + 2147483648) (omega arith))
    go (no x) (yes y) z = rw (signed-from-zero a (omega arith), signed-below-zero b y hb, lt-ltb a 2147483648 (omega arith), le-ltb b 2147483648 y) (le-ltb (a + 2147483648) (b - 2147483648) (omega arith))
    go (no x) (no y) (yes z) = rw (signed-from-zero a (omega arith), signed-from-zero b (omega arith), lt-ltb a 2147483648 (omega arith), lt-ltb b 2147483648 (omega arith), le-ltb a b z) (le-ltb (a + 2147483648) (b + 2147483648) (omega arith))
    go (no x) (no y) (no z) = rw (signed-from-zero a (omega arith), signed-from-zero b (omega arith), lt-ltb a 2147483648 (omega arith), lt-ltb b 2147483648 (omega arith), lt-ltb a b (omega arith)) (lt-ltb (a + 2147483648) (b + 2147483648) (omega arith))
