-- Laws of `all`: what holds of every element. Assumes nothing.
use Rattle.std.specs.Prelude.{◌≡◌, Bool, true, false, cond, ◌&&◌, ℕ, zero, suc, ◌<◌, eqb, length, get_or}
use Rattle.std.proofs.Math.Path.{refl}
use Rattle.std.proofs.Common.{sym, ap, ◌∙◌, arith, eqb-true}
use Rattle.std.proofs.lemmas.Bool.{false≢true}
use Rattle.std.proofs.Math.Bool.{and_assoc}
use mathlib.Core.List.{List, [], ◌∷◌, ◌++◌, map, flat_map}
use Rattle.rules.specs.Lists.{all, keep, has}
use Rattle.laws.specs.Has.{first-has, later-has}
use Rattle.laws.specs.Cases.{first-holds, second-holds, and-yes}

pub all-first : {A : Type 0} (p : A → Bool) (x : A) (xs : List A) → all p (x ∷ xs) ≡ true → (p x ≡ true) × (all p xs ≡ true)
unfolding all
all-first p x xs h = (first-holds (p x) (all p xs) h, second-holds (p x) (all p xs) h)

pub all-more : {A : Type 0} (p : A → Bool) (x : A) (l : List A) → p x ≡ true → all p l ≡ true → all p (x ∷ l) ≡ true
unfolding all
all-more p x l h k = and-yes (p x) (all p l) h k

pub all-true : {A : Type 0} (xs : List A) → all (λ x. true) xs ≡ true
unfolding all
all-true [] = refl
all-true (x ∷ xs) = all-true xs

pub all-same : {A : Type 0} (p q : A → Bool) (xs : List A) → ((x : A) → p x ≡ q x) → all p xs ≡ all q xs
unfolding all
all-same p q [] f = refl
all-same p q (x ∷ xs) f = rw (f x, all-same p q xs f)

pub all-weaken : {A : Type 0} (p q : A → Bool) (xs : List A) → ((x : A) → p x ≡ true → q x ≡ true) → all p xs ≡ true → all q xs ≡ true
unfolding all
all-weaken p q [] f h = refl
all-weaken p q (x ∷ xs) f h =
    let k = all-first p x xs h in
    rw (f x k.0) (all-weaken p q xs f k.1)

-- ---- members and places
pub all-member : (p : ℕ → Bool) (z : ℕ) (xs : List ℕ) → all p xs ≡ true → has z xs ≡ true → p z ≡ true
unfolding has
all-member p z [] a h = absurd (false≢true h)
all-member p z (x ∷ xs) a h = go (eqb z x) refl (all-first p x xs a) (all-member p z xs)
  where
    go : (t : Bool) → eqb z x ≡ t → (p x ≡ true) × (all p xs ≡ true) → (all p xs ≡ true → has z xs ≡ true → p z ≡ true) → p z ≡ true
    go true e k ih = rw (eqb-true z x e) k.0
    go false e k ih = ih k.1 (rw e at h)

pub all-has : (p : ℕ → Bool) (l : List ℕ) → ((v : ℕ) → has v l ≡ true → p v ≡ true) → all p l ≡ true
unfolding all
all-has p [] h = refl
all-has p (x ∷ l) h = and-yes (p x) (all p l) (h x (first-has x l)) (all-has p l (λ v k. h v (later-has x v l k)))

-- what holds of every element holds of the one at i
pub all-at : {A : Type 0} (p : A → Bool) (d : A) (l : List A) (i : ℕ) → all p l ≡ true → i < length l → p (get_or l i d) ≡ true
unfolding all
all-at p d [] i h k = absurd (omega arith)
all-at p d (x ∷ l) zero h k = first-holds (p x) (all p l) h
all-at p d (x ∷ l) (suc i) h k = all-at p d l i (second-holds (p x) (all p l) h) (omega arith)

-- ---- after joining, mapping and keeping
pub all-append : {A : Type 0} (p : A → Bool) (xs ys : List A) → all p (xs ++ ys) ≡ (all p xs && all p ys)
unfolding all
all-append p [] ys = refl
all-append p (x ∷ xs) ys = ap (λ t. p x && t) (all-append p xs ys) ∙ sym (and_assoc (p x) (all p xs) (all p ys))

pub all-appended : {A : Type 0} (p : A → Bool) (xs ys : List A) → all p xs ≡ true → all p ys ≡ true → all p (xs ++ ys) ≡ true
all-appended p xs ys a b = all-append p xs ys ∙ and-yes (all p xs) (all p ys) a b

pub all-mapped : {A B : Type 0} (p : B → Bool) (f : A → B) (xs : List A) → all p (map f xs) ≡ all (λ x. p (f x)) xs
unfolding all
all-mapped p f [] = refl
all-mapped p f (x ∷ xs) = ap (λ t. p (f x) && t) (all-mapped p f xs)

pub all-map : {A B : Type 0} (p : B → Bool) (f : A → B) (xs : List A) → ((x : A) → p (f x) ≡ true) → all p (map f xs) ≡ true
unfolding all
all-map p f [] h = refl
all-map p f (x ∷ xs) h = rw (h x) (all-map p f xs h)

pub all-flat : {B : Type 0} (p : B → Bool) (f : ℕ → List B) (xs : List ℕ) → ((x : ℕ) → has x xs ≡ true → all p (f x) ≡ true) → all p (flat_map f xs) ≡ true
unfolding all flat_map
all-flat p f [] h = refl
all-flat p f (x ∷ xs) h =
    all-append p (f x) (flat_map f xs) ∙ rw (h x (first-has x xs)) (all-flat p f xs (λ y k. h y (later-has x y xs k)))

module _ {A B : Type 0} (p : A → Bool) (q : B → Bool) where
  pub all-map-by : (f : A → B) (xs : List A) → ((x : A) → p x ≡ true → q (f x) ≡ true) → all p xs ≡ true → all q (map f xs) ≡ true
  unfolding all
  all-map-by f [] h a = refl
  all-map-by f (x ∷ xs) h a =
      and-yes (q (f x)) (all q (map f xs)) (h x (first-holds (p x) (all p xs) a)) (all-map-by f xs h (second-holds (p x) (all p xs) a))

  pub all-flat-by : (f : A → List B) (xs : List A) → ((x : A) → p x ≡ true → all q (f x) ≡ true) → all p xs ≡ true → all q (flat_map f xs) ≡ true
  unfolding all flat_map
  all-flat-by f [] h a = refl
  all-flat-by f (x ∷ xs) h a =
      all-append q (f x) (flat_map f xs)
      ∙ and-yes (all q (f x)) (all q (flat_map f xs)) (h x (first-holds (p x) (all p xs) a)) (all-flat-by f xs h (second-holds (p x) (all p xs) a))

pub all-keep : {A : Type 0} (p q : A → Bool) (xs : List A) → ((x : A) → p x ≡ true → q x ≡ true) → all q (keep p xs) ≡ true
unfolding all keep
all-keep p q [] f = refl
all-keep p q (x ∷ xs) f = go (p x) refl (all-keep p q xs f)
  where
    go : (t : Bool) → p x ≡ t → all q (keep p xs) ≡ true → all q (cond t (x ∷ []) [] ++ keep p xs) ≡ true
    go true e ih = rw (f x e) ih
    go false e ih = ih

pub all-kept : {A : Type 0} (p q : A → Bool) (xs : List A) → all q xs ≡ true → all q (keep p xs) ≡ true
unfolding all keep
all-kept p q [] a = refl
all-kept p q (x ∷ xs) a = go (p x) (first-holds (q x) (all q xs) a) (all-kept p q xs (second-holds (q x) (all q xs) a))
  where
    go : (t : Bool) → q x ≡ true → all q (keep p xs) ≡ true → all q (cond t (x ∷ []) [] ++ keep p xs) ≡ true
    go true e ih = and-yes (q x) (all q (keep p xs)) e ih
    go false e ih = ih
