-- Laws of `map` and `flat_map`. Assumes nothing.
use Rattle.std.specs.Prelude.{◌≡◌, refl, true, ℕ, zero, suc, ◌<◌, length, get_or}
use Rattle.std.proofs.Common.{sym, ap, ◌∙◌, arith}
use mathlib.Core.List.{List, [], ◌∷◌, ◌++◌, map, flat_map, append_assoc, map-append}
use Rattle.rules.specs.Lists.{has}
use Rattle.laws.specs.Has.{first-has, later-has}

pub map-same : {A B : Type 0} (f g : A → B) (xs : List A) → ((x : A) → f x ≡ g x) → map f xs ≡ map g xs
map-same f g [] h = refl
map-same f g (x ∷ xs) h = rw (h x, map-same f g xs h)

pub get-map : {A B : Type 0} (f : A → B) (l : List A) (i : ℕ) (d : A) (e : B) → i < length l → get_or (map f l) i e ≡ f (get_or l i d)
get-map f [] i d e h = absurd (omega arith)
get-map f (x ∷ l) zero d e h = refl
get-map f (x ∷ l) (suc i) d e h = get-map f l i d e (omega arith)

pub flat-append : {A B : Type 0} (f : A → List B) (xs ys : List A) → flat_map f (xs ++ ys) ≡ flat_map f xs ++ flat_map f ys
unfolding flat_map
flat-append f [] ys = refl
flat-append f (x ∷ xs) ys = ap (λ l. f x ++ l) (flat-append f xs ys) ∙ sym (append_assoc (f x) (flat_map f xs) (flat_map f ys))

pub map-flat : {A B C : Type 0} (f : B → C) (h : A → List B) (xs : List A) → map f (flat_map h xs) ≡ flat_map (λ x. map f (h x)) xs
unfolding flat_map
map-flat f h [] = refl
map-flat f h (x ∷ xs) = map-append f (h x) (flat_map h xs) ∙ ap (λ l. map f (h x) ++ l) (map-flat f h xs)

-- two functions that agree on the members
pub flat-same : {A : Type 0} (f g : ℕ → List A) (xs : List ℕ) → ((x : ℕ) → has x xs ≡ true → f x ≡ g x) → flat_map f xs ≡ flat_map g xs
unfolding flat_map
flat-same f g [] h = refl
flat-same f g (x ∷ xs) h = rw (h x (first-has x xs), flat-same f g xs (λ y k. h y (later-has x y xs k)))

pub flat-nil : {A B : Type 0} (xs : List A) → flat_map {B = B} (λ x. []) xs ≡ []
unfolding flat_map
flat-nil [] = refl
flat-nil (x ∷ xs) = flat-nil xs
