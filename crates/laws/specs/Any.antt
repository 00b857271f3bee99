-- Laws of `any`: what holds of some element. Assumes nothing.
use Rattle.std.specs.Prelude.{◌≡◌, refl, Bool, true, false, cond, ◌&&◌, ◌||◌, ℕ, eqb}
use Rattle.std.proofs.Common.{sym, ap, ◌∙◌, eqb-true}
use Rattle.std.proofs.Math.Bool.{or-true, or_assoc}
use mathlib.Core.List.{List, [], ◌∷◌, ◌++◌, map, flat_map}
use Rattle.rules.specs.Lists.{any, keep, has}
use Rattle.laws.specs.Has.{first-has, later-has}

pub any-append : {A : Type 0} (p : A → Bool) (xs ys : List A) → any p (xs ++ ys) ≡ (any p xs || any p ys)
unfolding any
any-append p [] ys = refl
any-append p (x ∷ xs) ys = ap (λ t. p x || t) (any-append p xs ys) ∙ sym (or_assoc (p x) (any p xs) (any p ys))

pub any-flat : {A B : Type 0} (p : B → Bool) (f : A → List B) (xs : List A) → any p (flat_map f xs) ≡ any (λ x. any p (f x)) xs
unfolding any flat_map
any-flat p f [] = refl
any-flat p f (x ∷ xs) = any-append p (f x) (flat_map f xs) ∙ ap (λ t. any p (f x) || t) (any-flat p f xs)

pub any-map : {A B : Type 0} (p : B → Bool) (f : A → B) (xs : List A) → any p (map f xs) ≡ any (λ x. p (f x)) xs
unfolding any
any-map p f [] = refl
any-map p f (x ∷ xs) = ap (λ t. p (f x) || t) (any-map p f xs)

pub any-keep : {A : Type 0} (q t : A → Bool) (xs : List A) → any q (keep t xs) ≡ any (λ x. t x && q x) xs
unfolding any keep
any-keep q t [] = refl
any-keep q t (x ∷ xs) = go (t x) (any-keep q t xs)
  where
    go : (s : Bool) → any q (keep t xs) ≡ any (λ x. t x && q x) xs → any q (cond s (x ∷ []) [] ++ keep t xs) ≡ (s && q x || any (λ x. t x && q x) xs)
    go true ih = ap (λ z. q x || z) ih
    go false ih = ih

-- ---- members
pub any-more : {A : Type 0} (p q : A → Bool) → ((x : A) → p x ≡ true → q x ≡ true) → (xs : List A) → any p xs ≡ true → any q xs ≡ true
unfolding any
any-more p q f [] h = h
any-more p q f (x ∷ xs) h = go (p x) refl h (any-more p q f xs)
  where
    go : (b : Bool) → p x ≡ b → (b || any p xs) ≡ true → (any p xs ≡ true → any q xs ≡ true) → (q x || any q xs) ≡ true
    go true e h ih = rw (f x e)
    go false e h ih = rw (ih h) (or-true (q x))

pub any-same : (p q : ℕ → Bool) (xs : List ℕ) → ((x : ℕ) → has x xs ≡ true → p x ≡ q x) → any p xs ≡ any q xs
unfolding any
any-same p q [] f = refl
any-same p q (x ∷ xs) f = rw (f x (first-has x xs), any-same p q xs (λ y k. f y (later-has x y xs k)))

pub any-weaken : (p q : ℕ → Bool) (xs : List ℕ) → ((x : ℕ) → has x xs ≡ true → p x ≡ true → q x ≡ true) → any p xs ≡ true → any q xs ≡ true
unfolding any
any-weaken p q [] f h = h
any-weaken p q (x ∷ xs) f h = go (p x) refl (any-weaken p q xs (λ y k. f y (later-has x y xs k)))
  where
    go : (t : Bool) → p x ≡ t → (any p xs ≡ true → any q xs ≡ true) → (q x || any q xs) ≡ true
    go true e ih = rw (f x (first-has x xs) e)
    go false e ih = ap (λ t. q x || t) (ih (rw e at h)) ∙ or-true (q x)

pub any-member : (p : ℕ → Bool) (z : ℕ) (xs : List ℕ) → has z xs ≡ true → p z ≡ true → any p xs ≡ true
unfolding any has
any-member p z [] h e = h
any-member p z (x ∷ xs) h e = go (eqb z x) refl (λ k. any-member p z xs k e)
  where
    go : (t : Bool) → eqb z x ≡ t → (has z xs ≡ true → any p xs ≡ true) → (p x || any p xs) ≡ true
    go true q ih = let k : p x ≡ true = rw (eqb-true z x q) at e in rw k
    go false q ih = ap (λ t. p x || t) (ih (rw q at h)) ∙ or-true (p x)

pub any-none : (p : ℕ → Bool) (l : List ℕ) → ((z : ℕ) → has z l ≡ true → p z ≡ false) → any p l ≡ false
unfolding any
any-none p [] f = refl
any-none p (x ∷ l) f = rw (f x (first-has x l)) (any-none p l (λ z m. f z (later-has x z l m)))
