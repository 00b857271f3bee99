-- The labels of S that are left, as a loop over the three goes through them: up to the first zero. Assumes nothing.
use mathlib.Core.Path.{◌≡◌, refl}
use mathlib.Core.Bool.{cond}
use mathlib.Core.List.{List, [], ◌∷◌}
use Prim.Native.Nat.{ℕ}
use lib.Dec.{eqb}
use borrow.Author.Tests.{eq-eqb, ne_eqb}
use Rattle.build_neighbours.specs.Left.{labels_left}

unfoldable pub until_zero : List ℕ → List ℕ
until_zero [] = []
until_zero (x ∷ xs) = cond (eqb x 0) [] (x ∷ until_zero xs)

pub until-none : until_zero [] ≡ []
unfolding until_zero
until-none = refl

pub until-here : (x : ℕ) (xs : List ℕ) → x ≡ 0 → until_zero (x ∷ xs) ≡ []
unfolding until_zero
until-here x xs e = rw (eq-eqb x 0 e)

pub until-next : (x : ℕ) (xs : List ℕ) → (x ≡ 0 → ⊥) → until_zero (x ∷ xs) ≡ x ∷ until_zero xs
unfolding until_zero
until-next x xs n = rw (ne_eqb x 0 n)

pub until-labels : (a b c : ℕ) → until_zero (a ∷ b ∷ c ∷ []) ≡ labels_left a b c
unfolding until_zero labels_left
until-labels a b c = refl
