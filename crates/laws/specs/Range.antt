-- Laws of `range`: numbers in a row. Assumes nothing.
use Rattle.std.proofs.Common.{arith, ap, sym, ◌∙◌, subst, eq-eqb, ne_eqb, lt-ltb, le-ltb, add_assoc, add-zero}
use Rattle.std.specs.Prelude.{◌≡◌, refl, [], ◌∷◌, List, map, ℕ, zero, suc, ◌+◌, ◌-◌, ◌≤◌, ◌<◌, length, get_or, true, ◌||◌, eqb, ltb}
use Rattle.std.proofs.lemmas.Bool.{false≢true}
use Rattle.std.proofs.Math.Decide.{ℕ_discrete}
use Rattle.rules.specs.Lists.{range, has, any_from}
use Rattle.laws.specs.Strict.{From}

pub range-next : (k n : ℕ) → k < n → range k (n - k) ≡ k ∷ range (k + 1) (n - (k + 1))
unfolding range
range-next k n h = let m : n - k ≡ suc (n - (k + 1)) = omega arith in rw m

pub range-none : (k n : ℕ) → n ≤ k → range k (n - k) ≡ []
unfolding range
range-none k n h = let m : n - k ≡ 0 = omega arith in rw m

pub length-range : (k n : ℕ) → length (range k n) ≡ n
unfolding range
length-range k zero = refl
length-range k (suc n) = ap suc (length-range (k + 1) n)

pub range-from : (k n : ℕ) → From k (range k n)
unfolding range From
range-from k zero = tt
range-from k (suc n) =
    let e : k + 1 ≡ suc k = omega arith in
    (omega arith, subst (λ x. From x (range (k + 1) n)) e (range-from (k + 1) n))

-- a list by its elements
pub map-range : {A : Type 0} (f : ℕ → A) (d : A) (k : ℕ) (l : List A) → ((i : ℕ) → i < length l → f (k + i) ≡ get_or l i d) → map f (range k (length l)) ≡ l
unfolding range
map-range f d k [] h = refl
map-range f d k (x ∷ l) h =
    let first : f k ≡ x = rw (add-zero k) at (h 0 (omega arith)) in
    let more : (i : ℕ) → i < length l → f (k + 1 + i) ≡ get_or l i d = λ i m. rw (add_assoc k 1 i) (rw (one-plus i) (h (suc i) (omega arith))) in
    cc (first, map-range f d (k + 1) l more)
  where
    one-plus : (i : ℕ) → 1 + i ≡ suc i
    one-plus i = omega arith

-- ---- members
pub has-range : (v k n : ℕ) → k ≤ v → has v (range k n) ≡ ltb v (k + n)
unfolding range has
has-range v k zero h = sym (le-ltb v (k + zero) (omega arith))
has-range v k (suc n) h = go (ℕ_discrete v k) (has-range v (k + 1) n)
  where
    go : Dec (v ≡ k) → (k + 1 ≤ v → has v (range (k + 1) n) ≡ ltb v (k + 1 + n)) → (eqb v k || has v (range (k + 1) n)) ≡ ltb v (k + suc n)
    go (yes e) ih = rw (eq-eqb v k e) (sym (lt-ltb v (k + suc n) (omega arith)))
    go (no e) ih =
        let m : k + 1 + n ≡ k + suc n = omega arith in
        rw (ne_eqb v k e) (ih (omega arith) ∙ ap (ltb v) m)

pub range-has : (z k n : ℕ) → k ≤ z → z < k + n → has z (range k n) ≡ true
unfolding range has
range-has z k zero l h = absurd (omega arith)
range-has z k (suc n) l h = go (ℕ_discrete z k) (λ u v. range-has z (k + 1) n u v)
  where
    go : Dec (z ≡ k) → (k + 1 ≤ z → z < k + 1 + n → has z (range (k + 1) n) ≡ true) → (eqb z k || has z (range (k + 1) n)) ≡ true
    go (yes e) ih = rw (eq-eqb z k e)
    go (no e) ih = rw (ne_eqb z k e) (ih (omega arith) (omega arith))

pub range-below : (z k n : ℕ) → has z (range k n) ≡ true → z < k + n
unfolding range has
range-below z k zero h = absurd (false≢true h)
range-below z k (suc n) h = go (ℕ_discrete z k) (range-below z (k + 1) n)
  where
    go : Dec (z ≡ k) → (has z (range (k + 1) n) ≡ true → z < k + 1 + n) → z < k + suc n
    go (yes e) ih = omega arith
    go (no e) ih = let l = ih (rw (ne_eqb z k e) at h) in omega arith

pub has-words : (f : ℕ → ℕ) (x k n : ℕ) → has x (map f (range k n)) ≡ any_from (λ i. eqb x (f i)) k n
unfolding has range any_from
has-words f x k zero = refl
has-words f x k (suc n) = ap (λ t. eqb x (f k) || t) (has-words f x (k + 1) n)
