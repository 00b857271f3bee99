-- Laws of `keep`: the elements that pass a test. Assumes nothing.
use native.Mathlib.Omega.{arith}
use Rattle.std.proofs.Math.Decide.{ℕ_discrete}
use Rattle.std.specs.Prelude.{◌≡◌, Bool, ◌&&◌, cond, ℕ, suc, ◌≤◌, ◌<◌, eqb}
use Rattle.std.proofs.Math.Path.{refl, sym, fun_ext}
use Rattle.std.proofs.Common.{ap, ◌∙◌, true≢false, eq-eqb, ne_eqb, eqb-true}
use Rattle.std.proofs.Math.Bool.{true, false, and-false, and_comm}
use Rattle.std.proofs.lemmas.Bool.{false≢true}
use mathlib.Core.List.{List, [], ◌∷◌, ◌++◌, map, flat_map}
use Rattle.std.proofs.Math.ListN.{length}
use Rattle.rules.specs.Lists.{has, keep}
use Rattle.laws.specs.Strict.{From, from-lower}
use Rattle.laws.specs.Has.{first-has, later-has}

pub keep-yes : {A : Type 0} (p : A → Bool) (y : A) (ys : List A) → p y ≡ true → keep p (y ∷ ys) ≡ y ∷ keep p ys
unfolding keep
keep-yes p y ys e = rw e

pub keep-no : {A : Type 0} (p : A → Bool) (y : A) (ys : List A) → p y ≡ false → keep p (y ∷ ys) ≡ keep p ys
unfolding keep
keep-no p y ys e = rw e

pub has-keep : (p : ℕ → Bool) (z : ℕ) (l : List ℕ) → has z (keep p l) ≡ (p z && has z l)
unfolding has
has-keep p z [] = unfold keep in sym (and-false (p z))
has-keep p z (y ∷ l) = go (ℕ_discrete z y) (p y) refl (has-keep p z l)
  where
    go : Dec (z ≡ y) → (t : Bool) → p y ≡ t → has z (keep p l) ≡ (p z && has z l) → has z (keep p (y ∷ l)) ≡ (p z && has z (y ∷ l))
    go (yes q) true e ih = let same : p z ≡ true = rw q e in rw (keep-yes p y l e, same, eq-eqb z y q)
    go (yes q) false e ih = let same : p z ≡ false = rw q e in rw (keep-no p y l e, ih, same)
    go (no f) true e ih = rw (keep-yes p y l e, ne_eqb z y f) ih
    go (no f) false e ih = rw (keep-no p y l e, ne_eqb z y f) ih

pub keep-from : (p : ℕ → Bool) (n : ℕ) (l : List ℕ) → From n l → From n (keep p l)
unfolding From
keep-from p n [] f = unfold keep in tt
keep-from p n (y ∷ l) f = go (p y) refl (keep-from p (suc y) l f.1)
  where
    go : (t : Bool) → p y ≡ t → From (suc y) (keep p l) → From n (keep p (y ∷ l))
    go true e ih = rw (keep-yes p y l e) (f.0, ih)
    go false e ih = let k = f.0 in rw (keep-no p y l e) (from-lower n (suc y) (keep p l) (omega arith) ih)

-- ---- by what the test says
pub keep-same : (p q : ℕ → Bool) (xs : List ℕ) → ((x : ℕ) → has x xs ≡ true → p x ≡ q x) → keep p xs ≡ keep q xs
unfolding keep
keep-same p q [] f = refl
keep-same p q (x ∷ xs) f = rw (f x (first-has x xs), keep-same p q xs (λ y k. f y (later-has x y xs k)))

pub keep-whole : (p : ℕ → Bool) (l : List ℕ) → ((x : ℕ) → has x l ≡ true → p x ≡ true) → keep p l ≡ l
keep-whole p [] h = unfold keep in refl
keep-whole p (x ∷ l) h = keep-yes p x l (h x (first-has x l)) ∙ ap (λ m. x ∷ m) (keep-whole p l (λ y k. h y (later-has x y l k)))

pub keep-none : {A : Type 0} (p : A → Bool) (l : List A) → ((v : A) → p v ≡ false) → keep p l ≡ []
unfolding keep
keep-none p [] h = refl
keep-none p (x ∷ l) h = rw (h x) (keep-none p l h)

-- those kept of what is kept
pub keep-keep : {A : Type 0} (p q : A → Bool) (l : List A) → keep p (keep q l) ≡ keep (λ v. q v && p v) l
unfolding keep
keep-keep p q [] = refl
keep-keep p q (x ∷ l) = go (q x) (keep-keep p q l)
  where
    go : (b : Bool) → keep p (keep q l) ≡ keep (λ v. q v && p v) l → keep p (cond b (x ∷ []) [] ++ keep q l) ≡ cond (b && p x) (x ∷ []) [] ++ keep (λ v. q v && p v) l
    go true ih = ap (λ t. cond (p x) (x ∷ []) [] ++ t) ih
    go false ih = ih

pub keep-swap : {A : Type 0} (p q : A → Bool) (l : List A) → keep p (keep q l) ≡ keep q (keep p l)
keep-swap p q l = keep-keep p q l ∙ ap (λ f. keep f l) (fun_ext (λ v. and_comm (q v) (p v))) ∙ sym (keep-keep q p l)

-- ---- over two lists, lists of lists, and what is made of the elements
pub keep-append : {A : Type 0} (p : A → Bool) (xs ys : List A) → keep p (xs ++ ys) ≡ keep p xs ++ keep p ys
unfolding keep
keep-append p [] ys = refl
keep-append p (x ∷ xs) ys = go (p x) (keep-append p xs ys)
  where
    go : (t : Bool) → keep p (xs ++ ys) ≡ keep p xs ++ keep p ys → cond t (x ∷ []) [] ++ keep p (xs ++ ys) ≡ (cond t (x ∷ []) [] ++ keep p xs) ++ keep p ys
    go true e = ap (λ l. x ∷ l) e
    go false e = e

pub keep-flat : {A B : Type 0} (p : A → Bool) (h : B → List A) (xs : List B) → keep p (flat_map h xs) ≡ flat_map (λ x. keep p (h x)) xs
unfolding flat_map keep
keep-flat p h [] = refl
keep-flat p h (x ∷ xs) = keep-append p (h x) (flat_map h xs) ∙ ap (λ l. keep p (h x) ++ l) (keep-flat p h xs)

pub flat-keep : {A B : Type 0} (f : A → List B) (p : A → Bool) (xs : List A) → flat_map f (keep p xs) ≡ flat_map (λ x. cond (p x) (f x) []) xs
unfolding flat_map keep
flat-keep f p [] = refl
flat-keep f p (x ∷ xs) = go (p x) (flat-keep f p xs)
  where
    go : (t : Bool) → flat_map f (keep p xs) ≡ flat_map (λ x. cond (p x) (f x) []) xs
        → flat_map f (cond t (x ∷ []) [] ++ keep p xs) ≡ cond t (f x) [] ++ flat_map (λ x. cond (p x) (f x) []) xs
    go true e = ap (λ l. f x ++ l) e
    go false e = e

-- what gives nothing may be left out
pub flat-kept : {A B : Type 0} (p : A → Bool) (g : A → List B) → ((x : A) → p x ≡ false → g x ≡ []) → (xs : List A) → flat_map g (keep p xs) ≡ flat_map g xs
unfolding flat_map
flat-kept p g h [] = unfold keep in refl
flat-kept p g h (x ∷ xs) = go (p x) refl (flat-kept p g h xs)
  where
    go : (t : Bool) → p x ≡ t → flat_map g (keep p xs) ≡ flat_map g xs → flat_map g (keep p (x ∷ xs)) ≡ g x ++ flat_map g xs
    go true e ih = rw (keep-yes p x xs e) (ap (λ t. g x ++ t) ih)
    go false e ih = rw (keep-no p x xs e, h x e) ih

pub map-keep : {A B : Type 0} (f : A → B) (p : A → Bool) (xs : List A) → map f (keep p xs) ≡ flat_map (λ x. cond (p x) (f x ∷ []) []) xs
unfolding flat_map keep
map-keep f p [] = refl
map-keep f p (x ∷ xs) = go (p x) (map-keep f p xs)
  where
    go : (t : Bool) → map f (keep p xs) ≡ flat_map (λ x. cond (p x) (f x ∷ []) []) xs
        → map f (cond t (x ∷ []) [] ++ keep p xs) ≡ cond t (f x ∷ []) [] ++ flat_map (λ x. cond (p x) (f x ∷ []) []) xs
    go true e = ap (λ l. f x ∷ l) e
    go false e = e

-- what is made of those kept is kept of what is made
pub keep-mapped : {A B : Type 0} (f : A → B) (p : A → Bool) (q : B → Bool) → ((x : A) → q (f x) ≡ p x) → (xs : List A) → map f (keep p xs) ≡ keep q (map f xs)
unfolding keep
keep-mapped f p q h [] = refl
keep-mapped f p q h (x ∷ xs) = go (p x) (h x) (keep-mapped f p q h xs)
  where
    go : (b : Bool) → q (f x) ≡ b → map f (keep p xs) ≡ keep q (map f xs) → map f (cond b (x ∷ []) [] ++ keep p xs) ≡ cond (q (f x)) (f x ∷ []) [] ++ keep q (map f xs)
    go true e ih = rw e (ap (λ l. f x ∷ l) ih)
    go false e ih = rw e ih

-- ---- how many are kept
module _ {A : Type 0} (p q : A → Bool) (fewer : (x : A) → q x ≡ true → p x ≡ true) where
  one-fewer : (x : A) (xs : List A) → length (keep q xs) ≤ length (keep p xs) → length (keep q (x ∷ xs)) ≤ length (keep p (x ∷ xs))
  unfolding keep
  one-fewer x xs ih = go (q x) (p x) (fewer x)
    where
      go : (a b : Bool) → (a ≡ true → b ≡ true) → length (cond a (x ∷ []) [] ++ keep q xs) ≤ length (cond b (x ∷ []) [] ++ keep p xs)
      go true true f = omega arith
      go true false f = absurd (false≢true (f refl))
      go false true f = omega arith
      go false false f = ih

  pub keep-fewer : (xs : List A) → length (keep q xs) ≤ length (keep p xs)
  unfolding keep
  keep-fewer [] = omega arith
  keep-fewer (x ∷ xs) = one-fewer x xs (keep-fewer xs)

pub keep-most : {A : Type 0} (p : A → Bool) (xs : List A) → length (keep p xs) ≤ length xs
unfolding keep
keep-most p [] = omega arith
keep-most p (x ∷ xs) = go (p x) (keep-most p xs)
  where
    go : (a : Bool) → length (keep p xs) ≤ length xs → length (cond a (x ∷ []) [] ++ keep p xs) ≤ suc (length xs)
    go true h = omega arith
    go false h = omega arith

-- one that p keeps and q does not makes a difference
pub keep-less : (p q : ℕ → Bool) → ((x : ℕ) → q x ≡ true → p x ≡ true) → (z : ℕ) (xs : List ℕ) → has z (keep p xs) ≡ true → q z ≡ false
    → length (keep q xs) < length (keep p xs)
unfolding keep has
keep-less p q fewer z [] h n = absurd (false≢true h)
keep-less p q fewer z (x ∷ xs) h n = go (p x) refl (q x) refl (eqb z x) refl (keep-less p q fewer z xs)
  where
    go : (a : Bool) → p x ≡ a → (b : Bool) → q x ≡ b → (c : Bool) → eqb z x ≡ c
        → (has z (keep p xs) ≡ true → q z ≡ false → length (keep q xs) < length (keep p xs))
        → length (keep q (x ∷ xs)) < length (keep p (x ∷ xs))
    go true ep false eq c ec ih = let k = keep-fewer p q fewer xs in rw (ep, eq) (omega arith)
    go true ep true eq true ec ih = absurd (true≢false (sym eq ∙ ap q (sym (eqb-true z x ec)) ∙ n))
    go true ep true eq false ec ih = let k = ih (rw (ep, ec) at h) n in rw (ep, eq) (omega arith)
    go false ep true eq c ec ih = absurd (false≢true (sym ep ∙ fewer x eq))
    go false ep false eq c ec ih = rw (ep, eq) (ih (rw ep at h) n)
