-- What a test of every number, or of some number, says of each. Assumes nothing.
use Rattle.std.proofs.Common.{arith, ap, ◌∙◌, ap₂}
use Rattle.std.proofs.Math.Decide.{dec_le}
use Rattle.std.specs.Prelude.{◌≡◌, refl, Bool, true, false, ◌||◌, ◌&&◌, ℕ, zero, suc, ◌+◌, ◌≤◌, ◌<◌}
use Rattle.std.proofs.lemmas.Bool.{false≢true}
use Rattle.std.proofs.Math.Bool.{or-true}
use Rattle.rules.specs.Lists.{all_from, any_from}
use Rattle.laws.specs.Cases.{first-holds, second-holds, or-left, and-yes}

-- all: so each
pub all-each : (p : ℕ → Bool) (k n : ℕ) → all_from p k n ≡ true → (i : ℕ) → k ≤ i → i < k + n → p i ≡ true
unfolding all_from
all-each p k zero h i a b = absurd (omega arith)
all-each p k (suc n) h i a b =
    go (dec_le i k) (all-each p (k + 1) n (second-holds (p k) (all_from p (k + 1) n) h))
  where
    go : Dec (i ≤ k) → ((j : ℕ) → k + 1 ≤ j → j < k + 1 + n → p j ≡ true) → p i ≡ true
    go (yes q) ih = let e : i ≡ k = omega arith in rw e (first-holds (p k) (all_from p (k + 1) n) h)
    go (no q) ih = ih i (omega arith) (omega arith)

-- one: so some
pub any-one : (p : ℕ → Bool) (k n i : ℕ) → k ≤ i → i < k + n → p i ≡ true → any_from p k n ≡ true
unfolding any_from
any-one p k zero i a b e = absurd (omega arith)
any-one p k (suc n) i a b e = go (dec_le i k) (λ u v. any-one p (k + 1) n i u v e)
  where
    go : Dec (i ≤ k) → (k + 1 ≤ i → i < k + 1 + n → any_from p (k + 1) n ≡ true) → (p k || any_from p (k + 1) n) ≡ true
    go (yes q) ih = let z : i ≡ k = omega arith in or-left (p k) (any_from p (k + 1) n) (rw z at e)
    go (no q) ih = ap (λ t. p k || t) (ih (omega arith) (omega arith)) ∙ or-true (p k)

-- some: so one
pub record Some (p : ℕ → Bool) (k n : ℕ) : Type 0 where
  pub at : ℕ
  pub low : k ≤ at
  pub high : at < k + n
  pub holds : p at ≡ true

pub any-some : (p : ℕ → Bool) (k n : ℕ) → any_from p k n ≡ true → Some p k n
unfolding any_from
any-some p k zero h = absurd (false≢true h)
any-some p k (suc n) h = go (p k) refl (any-some p (k + 1) n)
  where
    go : (t : Bool) → p k ≡ t → (any_from p (k + 1) n ≡ true → Some p (k + 1) n) → Some p k (suc n)
    go true e ih = record { at = k; low = omega arith; high = omega arith; holds = e }
    go false e ih =
        let s = ih (rw e at h) in
        record { at = s.at; low = omega arith; high = omega arith; holds = s.holds }

-- each: so all
pub each-all : (p : ℕ → Bool) (k n : ℕ) → ((i : ℕ) → k ≤ i → i < k + n → p i ≡ true) → all_from p k n ≡ true
unfolding all_from
each-all p k zero h = refl
each-all p k (suc n) h = and-yes (p k) (all_from p (k + 1) n) (h k (omega arith) (omega arith)) (each-all p (k + 1) n (λ i a c. h i (omega arith) (omega arith)))

pub each-same : (p q : ℕ → Bool) (k n : ℕ) → ((j : ℕ) → k ≤ j → j < k + n → p j ≡ q j) → all_from p k n ≡ all_from q k n
unfolding all_from
each-same p q k zero h = refl
each-same p q k (suc n) h = ap₂ ◌&&◌ (h k (omega arith) (omega arith)) (each-same p q (k + 1) n (λ j a b. h j (omega arith) (omega arith)))

pub any-alike : (p q : ℕ → Bool) (k n : ℕ) → ((i : ℕ) → i < k + n → p i ≡ q i) → any_from p k n ≡ any_from q k n
unfolding any_from
any-alike p q k zero h = refl
any-alike p q k (suc n) h = rw (h k (omega arith)) (ap (λ t. q k || t) (any-alike p q (k + 1) n (λ i j. h i (omega arith))))

pub none-any : (p : ℕ → Bool) (k n : ℕ) → ((i : ℕ) → i < k + n → p i ≡ false) → any_from p k n ≡ false
unfolding any_from
none-any p k zero h = refl
none-any p k (suc n) h = rw (h k (omega arith)) (none-any p (k + 1) n (λ i j. h i (omega arith)))
