-- Laws of `has`: the members of a list. Assumes nothing.
use Rattle.std.proofs.Common.{arith, sym, ap, ◌∙◌, eq-eqb, ne_eqb}
use Rattle.std.proofs.Math.Decide.{ℕ_discrete}
use Rattle.std.specs.Prelude.{◌≡◌, true, ◌||◌, ℕ, suc, ◌<◌, zero, length, get_or, eqb}
use Rattle.std.proofs.Math.Path.{refl}
use Rattle.std.proofs.lemmas.Bool.{false≢true}
use Rattle.std.proofs.Math.Bool.{or-true, or_assoc}
use mathlib.Core.List.{List, [], ◌∷◌, ◌++◌, flat_map}
use Rattle.rules.specs.Lists.{has, any}

pub first-has : (y : ℕ) (l : List ℕ) → has y (y ∷ l) ≡ true
unfolding has
first-has y l = rw (eq-eqb y y refl)

pub later-has : (x y : ℕ) (xs : List ℕ) → has y xs ≡ true → has y (x ∷ xs) ≡ true
unfolding has
later-has x y xs k = rw k (or-true (eqb y x))

pub has-append : (z : ℕ) (a b : List ℕ) → has z (a ++ b) ≡ (has z a || has z b)
unfolding has
has-append z [] b = refl
has-append z (y ∷ a) b = ap (λ t. eqb z y || t) (has-append z a b) ∙ sym (or_assoc (eqb z y) (has z a) (has z b))

pub has-flat : {A : Type 0} (z : ℕ) (f : A → List ℕ) (xs : List A) → has z (flat_map f xs) ≡ any (λ x. has z (f x)) xs
unfolding any flat_map
has-flat z f [] = unfold has in refl
has-flat z f (x ∷ xs) = has-append z (f x) (flat_map f xs) ∙ ap (λ t. has z (f x) || t) (has-flat z f xs)

-- ---- by places
-- an element is a member
pub has-get : (l : List ℕ) (i : ℕ) → i < length l → has (get_or l i 0) l ≡ true
has-get [] i h = absurd (omega arith)
has-get (y ∷ l) zero h = first-has y l
has-get (y ∷ l) (suc i) h = later-has y (get_or l i 0) l (has-get l i (omega arith))

-- a place where x stands
pub record At (x : ℕ) (l : List ℕ) : Type 0 where
  pub place : ℕ
  pub below : place < length l
  pub is : get_or l place 0 ≡ x

pub has-at : (x : ℕ) (l : List ℕ) → has x l ≡ true → At x l
unfolding has
has-at x [] h = absurd (false≢true h)
has-at x (y ∷ l) h = go (ℕ_discrete x y) (has-at x l)
  where
    go : Dec (x ≡ y) → (has x l ≡ true → At x l) → At x (y ∷ l)
    go (yes e) ih = record { place = 0; below = omega arith; is = sym e }
    go (no n) ih =
        let s = ih (rw (ne_eqb x y n) at h) in
        record { place = suc s.place; below = omega (arith, s.below); is = s.is }
