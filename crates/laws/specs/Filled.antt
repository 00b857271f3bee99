-- Laws of `filled`: lists that have an element. Assumes nothing.
use Rattle.std.specs.Prelude.{◌≡◌, Bool, true, false, cond, not, ◌&&◌, ◌||◌, ℕ, suc, eqb, length}
use Rattle.std.proofs.Math.Path.{refl}
use Rattle.std.proofs.Common.{ap, ◌∙◌, arith, ne_eqb}
use mathlib.Core.List.{List, [], ◌∷◌, ◌++◌, map, flat_map}
use Rattle.rules.specs.Lists.{all, any, keep, choices}
use Rattle.laws.specs.Any.{any-same}

-- the list has an element
unfoldable pub filled : {A : Type 0} → List A → Bool
filled [] = false
filled (x ∷ xs) = true

pub filled-append : {A : Type 0} (xs ys : List A) → filled (xs ++ ys) ≡ (filled xs || filled ys)
unfolding filled
filled-append [] ys = refl
filled-append (x ∷ xs) ys = refl

pub filled-map : {A B : Type 0} (f : A → B) (xs : List A) → filled (map f xs) ≡ filled xs
unfolding filled
filled-map f [] = refl
filled-map f (x ∷ xs) = refl

pub filled-flat : {A B : Type 0} (f : A → List B) (xs : List A) → filled (flat_map f xs) ≡ any (λ x. filled (f x)) xs
unfolding filled flat_map any
filled-flat f [] = refl
filled-flat f (x ∷ xs) = filled-append (f x) (flat_map f xs) ∙ ap (λ t. filled (f x) || t) (filled-flat f xs)

pub filled-keep : {A : Type 0} (p : A → Bool) (xs : List A) → filled (keep p xs) ≡ any p xs
unfolding filled keep any
filled-keep p [] = refl
filled-keep p (x ∷ xs) = go (p x) (filled-keep p xs)
  where
    go : (t : Bool) → filled (keep p xs) ≡ any p xs → filled (cond t (x ∷ []) [] ++ keep p xs) ≡ (t || any p xs)
    go true ih = refl
    go false ih = ih

pub filled-length : {A : Type 0} (xs : List A) → not (eqb (length xs) 0) ≡ filled xs
unfolding filled
filled-length [] = refl
filled-length (x ∷ xs) = ap not (ne_eqb (suc (length xs)) 0 (λ e. omega arith))

pub filled-all : {A : Type 0} (p : A → Bool) (xs : List A) → (filled xs ≡ true → all p xs ≡ true) → all p xs ≡ true
unfolding filled
filled-all p [] f = unfold all in refl
filled-all p (x ∷ xs) f = f refl

pub any-always : (t : Bool) (xs : List ℕ) → any (λ x. t) xs ≡ (filled xs && t)
unfolding any filled
any-always t [] = refl
any-always t (x ∷ xs) = ap (λ s. t || s) (any-always t xs) ∙ once t (filled xs)
  where
    once : (t s : Bool) → (t || (s && t)) ≡ t
    once true s = refl
    once false true = refl
    once false false = refl

pub filled-choices : (lists : List (List ℕ)) → filled (choices lists) ≡ all filled lists
unfolding choices all
filled-choices [] = unfold filled in refl
filled-choices (xs ∷ rest) =
    filled-flat (λ x. map (λ c. x ∷ c) (choices rest)) xs
    ∙ any-same _ (λ x. filled (choices rest)) xs (λ x h. filled-map (λ c. x ∷ c) (choices rest))
    ∙ any-always (filled (choices rest)) xs
    ∙ ap (λ t. filled xs && t) (filled-choices rest)
