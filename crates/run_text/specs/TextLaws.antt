-- Laws of numbers as text and of what was written. Assumes nothing.
use Rattle.std.specs.Prelude.{ℕ, zero, suc, ◌+◌, ◌-◌, ◌/◌, ◌%◌, ◌^◌, ◌≤◌, ◌<◌, ◌≡◌, Bool, true, false, List, [], ◌∷◌, ◌++◌, ltb, length}
use Rattle.std.proofs.Common.{arith, pow-suc, length-append, lt-ltb, le-ltb}
use Rattle.std.proofs.Math.Nat.{one-le-pow, pow-le-pow_right}
use Rattle.std.proofs.Math.Decide.{dec_le}
use Rattle.io.specs.Digits.{last_digits, hex_digit_ascii, IsDigitCount}
use Rattle.run_text.specs.Text.{decimal_in, decimal}

-- ---- numbers
-- as many digits as are allowed, or fewer
decimal-in-short : (k n : ℕ) → length (decimal_in k n) ≤ k
unfolding decimal_in
decimal-in-short zero n = omega arith
decimal-in-short (suc k) n = go (ltb n 10) (decimal-in-short k (n / 10))
  where
    go : (x : Bool) → length (decimal_in k (n / 10)) ≤ k → length {A = ℕ} (elim x [ true ↦ (48 + n) ∷ [] | false ↦ decimal_in k (n / 10) ++ ((48 + n % 10) ∷ []) ]) ≤ suc k
    go true h = omega arith
    go false h = omega (arith, length-append (decimal_in k (n / 10)) ((48 + n % 10) ∷ []))

pub decimal-short : (n : ℕ) → length (decimal n) ≤ 20
unfolding decimal
decimal-short n = decimal-in-short 20 n

glyph-is : (n : ℕ) → hex_digit_ascii (n % 10) ≡ 48 + n % 10
glyph-is n =
    let small : n % 10 < 10 = omega arith in
    rw (lt-ltb (n % 10) 10 small)

-- the fewest digits that hold a number are its digits here
fewest-in : (r k n : ℕ) → r ≤ k → IsDigitCount 10 1 n r → last_digits 10 r n ≡ decimal_in k n
unfolding decimal_in
fewest-in zero k n h f = absurd (omega (arith, f.0))
fewest-in (suc zero) (suc k) n h f =
    let small : n < 10 = omega (arith, f.1) in
    let same : n % 10 ≡ n = omega arith in
    rw (glyph-is n, same, lt-ltb n 10 small, decimal_in)
fewest-in (suc (suc r)) (suc k) n h f =
    let power = pow-suc 10 (suc r) in
    let down : suc (suc r) - 1 ≡ suc r = omega arith in
    let large : 10 ^ suc r ≤ n = rw down at (f.2 (omega arith)) in
    let ten : 10 ≤ n = omega (arith, pow-suc 10 r, one-le-pow r 10 (omega arith)) in
    let less : n / 10 < 10 ^ suc r = omega (arith, f.1) in
    let once : suc r - 1 ≡ r = omega arith in
    let lower : 1 < suc r → 10 ^ (suc r - 1) ≤ n / 10 = λ more. rw once (omega (arith, pow-suc 10 r)) in
    rw (glyph-is n, le-ltb n 10 ten, decimal_in, fewest-in (suc r) k (n / 10) (omega arith) (omega arith, less, lower))
fewest-in (suc r) zero n h f = absurd (omega arith)

-- 20 digits hold every number below 2^64
pub fewest-few : (r n : ℕ) → n < 18446744073709551616 → IsDigitCount 10 1 n r → r ≤ 20
fewest-few r n h f = go (dec_le r 20)
  where
    go : Dec (r ≤ 20) → r ≤ 20
    go (yes k) = k
    go (no k) =
        let many : 20 ≤ r - 1 = omega arith in
        let more : 10 ^ 20 ≤ 10 ^ (r - 1) = pow-le-pow_right (omega arith) many in
        let least : 10 ^ (r - 1) ≤ n = f.2 (omega arith) in
        absurd (omega arith)

pub fewest-decimal : (r n : ℕ) → n < 18446744073709551616 → IsDigitCount 10 1 n r → last_digits 10 r n ≡ decimal n
unfolding decimal
fewest-decimal r n h f = fewest-in r 20 n (fewest-few r n h f) f

-- ---- what was written
-- a name and a number
pub named-short : (name : List ℕ) (n : ℕ) → length (name ++ decimal n) ≤ length name + 20
named-short name n = omega (arith, length-append name (decimal n), decimal-short n)
