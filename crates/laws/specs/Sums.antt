-- Laws of `sum`. Assumes nothing.
use Rattle.std.proofs.Common.{arith, ap, ◌∙◌}
use Rattle.std.specs.Prelude.{◌≡◌, refl, ℕ, ◌+◌, length}
use mathlib.Core.List.{List, [], ◌∷◌, ◌++◌, map, flat_map, map-append}
use Rattle.rules.specs.Lists.{sum}

pub sum-append : (a b : List ℕ) → sum (a ++ b) ≡ sum a + sum b
unfolding sum
sum-append [] b = let e : sum b ≡ 0 + sum b = omega arith in e
sum-append (x ∷ a) b = let e = sum-append a b in omega arith

pub sum-flat : {A : Type 0} (h : A → List ℕ) (xs : List A) → sum (flat_map h xs) ≡ sum (map (λ x. sum (h x)) xs)
unfolding sum flat_map
sum-flat h [] = refl
sum-flat h (x ∷ xs) = sum-append (h x) (flat_map h xs) ∙ ap (λ n. sum (h x) + n) (sum-flat h xs)

pub sum-ones : (list : List ℕ) → sum (map (λ v. 1) list) ≡ length list
unfolding sum
sum-ones [] = refl
sum-ones (v ∷ list) = let e = sum-ones list in omega arith

-- what is made of each element of two lists
pub sum-both : {A : Type 0} (f : A → ℕ) (xs ys : List A) → sum (map f (xs ++ ys)) ≡ sum (map f xs) + sum (map f ys)
sum-both f xs ys = ap sum (map-append f xs ys) ∙ sum-append (map f xs) (map f ys)
