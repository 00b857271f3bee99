-- Keys are ordered: what is below b is below all that is not, and no two are below each other. Assumes nothing.
use native.Mathlib.Omega.{arith}
use native.Mathlib.Decide.{dec_le}
use mathlib.Core.Path.{◌≡◌, refl, sym, ◌∙◌}
use mathlib.Core.Bool.{Bool, true, false, true≢false}
use Prim.Native.Nat.{ℕ, ◌≤◌, ◌<◌}
use lib.Dec.{ltb}
use borrow.Author.Tests.{lt-ltb, le-ltb, ltb-true, ltb-false, eq-eqb, ne_eqb}
use Rattle.rules.specs.Lists.{less_then}
use Rattle.rules.specs.declared.Key.{Key}
use Rattle.store_finger.specs.Order.{key_less}

-- a test that cannot hold fails
pub denied : (t : Bool) → (t ≡ true → ⊥) → t ≡ false
denied true f = absurd (f refl)
denied false f = refl

module _ (a b : ℕ) (t : Bool) where
  less-low : a < b → less_then a b t ≡ true
  less-low h = rw (lt-ltb a b h)

  less-high : b < a → less_then a b t ≡ false
  less-high h = rw (le-ltb a b (omega arith), ne_eqb a b (λ e. omega arith))

  less-tie : a ≡ b → less_then a b t ≡ t
  less-tie e = rw (le-ltb a b (omega arith), eq-eqb a b e)

  less-most : less_then a b t ≡ true → a ≤ b
  less-most h = go (dec_le a b)
    where
      go : Dec (a ≤ b) → a ≤ b
      go (yes q) = q
      go (no q) = absurd (true≢false (sym h ∙ less-high (omega arith)))

  less-least : less_then a b t ≡ false → b ≤ a
  less-least h = go (dec_le b a)
    where
      go : Dec (b ≤ a) → b ≤ a
      go (yes q) = q
      go (no q) = absurd (true≢false (sym (less-low (omega arith)) ∙ h))

-- what is below b is below all that is not, and no two are below each other
record Ordered (less : Key → Key → Bool) : Type 0 where
  through : (a b c : Key) → less a b ≡ true → less c b ≡ false → less a c ≡ true
  apart : (a b : Key) → less a b ≡ true → less b a ≡ false

by-number : (f : Key → ℕ) → Ordered (λ a b. ltb (f a) (f b))
by-number f = record {
  through = λ a b c h k. lt-ltb (f a) (f c) (omega (arith, ltb-true (f a) (f b) h, ltb-false (f c) (f b) k));
  apart = λ a b h. le-ltb (f b) (f a) (omega (arith, ltb-true (f a) (f b) h));
}

-- one more number before the rest
number-first : (f : Key → ℕ) {less : Key → Key → Bool} → Ordered less → Ordered (λ a b. less_then (f a) (f b) (less a b))
number-first f {less} o = record {
  through = λ a b c h k. going a b c h k (dec_le (f c) (f a));
  apart = λ a b h. parting a b h (dec_le (f b) (f a));
}
  where
    going : (a b c : Key) → less_then (f a) (f b) (less a b) ≡ true → less_then (f c) (f b) (less c b) ≡ false → Dec (f c ≤ f a) → less_then (f a) (f c) (less a c) ≡ true
    going a b c h k (yes q) =
        let x = less-most (f a) (f b) (less a b) h in
        let y = less-least (f c) (f b) (less c b) k in
        let e : f a ≡ f b = omega arith in
        let g : f c ≡ f b = omega arith in
        less-tie (f a) (f c) (less a c) (e ∙ sym g) ∙ o.through a b c (sym (less-tie (f a) (f b) (less a b) e) ∙ h) (sym (less-tie (f c) (f b) (less c b) g) ∙ k)
    going a b c h k (no q) = less-low (f a) (f c) (less a c) (omega arith)

    parting : (a b : Key) → less_then (f a) (f b) (less a b) ≡ true → Dec (f b ≤ f a) → less_then (f b) (f a) (less b a) ≡ false
    parting a b h (yes q) =
        let x = less-most (f a) (f b) (less a b) h in
        let e : f a ≡ f b = omega arith in
        less-tie (f b) (f a) (less b a) (sym e) ∙ o.apart a b (sym (less-tie (f a) (f b) (less a b) e) ∙ h)
    parting a b h (no q) = less-high (f b) (f a) (less b a) (omega arith)

ordered : Ordered key_less
unfolding key_less
ordered =
    number-first (λ k. k.constraint) (number-first (λ k. k.first) (number-first (λ k. k.second) (by-number (λ k. k.third))))

pub key-through : (a b c : Key) → key_less a b ≡ true → key_less c b ≡ false → key_less a c ≡ true
key-through = ordered.through

pub key-apart : (a b : Key) → key_less a b ≡ true → key_less b a ≡ false
key-apart = ordered.apart

pub key-self : (a : Key) → key_less a a ≡ false
key-self a = denied (key_less a a) (λ h. true≢false (sym h ∙ key-apart a a h))

-- not below is handed on
pub key-later : (a b c : Key) → key_less b a ≡ false → key_less c b ≡ false → key_less c a ≡ false
key-later a b c h k = denied (key_less c a) (λ e. true≢false (sym (key-through c a b e h) ∙ k))
