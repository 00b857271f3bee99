-- The invariants of three kinds of loop over 0, 1, .., n - 1, with a law for each need. Assumes nothing.
use Rattle.std.specs.Prelude.{◌≡◌, Bool, true, false, ◌&&◌, ◌||◌}
use Rattle.std.proofs.Math.Path.{sym}
use Rattle.std.proofs.Common.{◌∙◌}
use Prim.Native.Nat.{ℕ, zero, suc, ◌+◌, ◌-◌, ◌<◌, ◌≤◌}
use Rattle.std.proofs.Math.Nat.{sub-zero}
use native.Mathlib.Omega.{arith}
use Rattle.rules.specs.Lists.{all_from, any_from}

-- a, taken through k, k + 1, ..: through n numbers
unfoldable pub fold_from : {A : Type 0} → (ℕ → A → A) → ℕ → ℕ → A → A
fold_from f k zero a = a
fold_from f k (suc n) a = fold_from f (k + 1) n (f k a)

-- a loop that tests p and stops at the first failure: at k, what is left decides the whole. A record, so that the laws find p, n, k and whole by themselves
pub record AllLeft (p : ℕ → Bool) (n k : ℕ) (whole : Bool) : Type 0 where
  pub within : k ≤ n
  pub rest : whole ≡ all_from p k (n - k)

pub all-start : (p : ℕ → Bool) (n : ℕ) → AllLeft p n 0 (all_from p 0 n)
all-start p n = record { within = omega arith; rest = rw sub-zero }

module _ {p : ℕ → Bool} {n k : ℕ} {whole : Bool} (inv : AllLeft p n k whole) where
  turn : k < n → whole ≡ (p k && all_from p (k + 1) (n - (k + 1)))
  unfolding all_from
  turn h =
      let e : n - k ≡ suc (n - (k + 1)) = omega arith in
      inv.rest ∙ rw e

  pub all-next : {r : Bool} → k < n → r ≡ p k → r ≡ true → AllLeft p n (k + 1) whole
  all-next h q e = record { within = omega arith; rest = turn h ∙ rw (sym q ∙ e) }

  pub all-stop : {r : Bool} → k < n → r ≡ p k → r ≡ false → false ≡ whole
  all-stop h q e = sym (turn h ∙ rw (sym q ∙ e))

  pub all-done : n ≤ k → true ≡ whole
  unfolding all_from
  all-done h =
      let e : n - k ≡ 0 = omega arith in
      sym (inv.rest ∙ rw e)

-- a loop that tests p and stops at the first success: at k, what is left decides the whole
pub record AnyLeft (p : ℕ → Bool) (n k : ℕ) (whole : Bool) : Type 0 where
  pub within : k ≤ n
  pub rest : whole ≡ any_from p k (n - k)

pub any-start : (p : ℕ → Bool) (n : ℕ) → AnyLeft p n 0 (any_from p 0 n)
any-start p n = record { within = omega arith; rest = rw sub-zero }

module _ {p : ℕ → Bool} {n k : ℕ} {whole : Bool} (inv : AnyLeft p n k whole) where
  any-turn : k < n → whole ≡ (p k || any_from p (k + 1) (n - (k + 1)))
  unfolding any_from
  any-turn h =
      let e : n - k ≡ suc (n - (k + 1)) = omega arith in
      inv.rest ∙ rw e

  pub any-next : {r : Bool} → k < n → r ≡ p k → r ≡ false → AnyLeft p n (k + 1) whole
  any-next h q e = record { within = omega arith; rest = any-turn h ∙ rw (sym q ∙ e) }

  pub any-stop : {r : Bool} → k < n → r ≡ p k → r ≡ true → true ≡ whole
  any-stop h q e = sym (any-turn h ∙ rw (sym q ∙ e))

  pub any-done : n ≤ k → false ≡ whole
  unfolding any_from
  any-done h =
      let e : n - k ≡ 0 = omega arith in
      sym (inv.rest ∙ rw e)

-- a loop that takes a through f: at k, what is left gives the whole
pub record FoldLeft {A : Type 0} (f : ℕ → A → A) (n k : ℕ) (a whole : A) : Type 0 where
  pub within : k ≤ n
  pub rest : whole ≡ fold_from f k (n - k) a

pub fold-start : {A : Type 0} (f : ℕ → A → A) (n : ℕ) (a : A) → FoldLeft f n 0 a (fold_from f 0 n a)
fold-start f n a = record { within = omega arith; rest = rw sub-zero }

module _ {A : Type 0} {f : ℕ → A → A} {n k : ℕ} {a whole : A} (inv : FoldLeft f n k a whole) where
  pub fold-next : (b : A) → k < n → b ≡ f k a → FoldLeft f n (k + 1) b whole
  unfolding fold_from
  fold-next b h e =
      let m : n - k ≡ suc (n - (k + 1)) = omega arith in
      record { within = omega arith; rest = inv.rest ∙ rw (m, e) }

  pub fold-done : n ≤ k → a ≡ whole
  unfolding fold_from
  fold-done h =
      let m : n - k ≡ 0 = omega arith in
      sym (inv.rest ∙ rw m)
