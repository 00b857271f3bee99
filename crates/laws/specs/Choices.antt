-- Laws of `choices`: one element from each list. Assumes nothing.
use Rattle.std.specs.Prelude.{◌≡◌, refl, Bool, true, false, cond, ◌&&◌, ◌||◌, ℕ, suc, ◌*◌, eqb, length}
use Rattle.std.proofs.Common.{sym, ap, ◌∙◌, true≢false, arith, length-append, eqb-true, add_comm, zero-mul, suc-mul}
use Rattle.std.proofs.lemmas.Bool.{false≢true}
use mathlib.Core.List.{List, [], ◌∷◌, ◌++◌, map, flat_map}
use Rattle.std.proofs.lemmas.List.{length-map}
use Rattle.rules.specs.Lists.{all, any, keep, has, product, choices}
use Rattle.laws.specs.Strict.{From, below}
use Rattle.laws.specs.Cases.{first-holds, second-holds}
use Rattle.laws.specs.All.{all-flat, all-mapped, all-member, all-weaken}
use Rattle.laws.specs.Keep.{flat-keep, keep-flat}
use Rattle.laws.specs.Beside.{Beside}
use Rattle.laws.specs.Every.{Every, every-flat, every-map, every-member}
use Rattle.laws.specs.Any.{any-flat, any-map, any-member}
use Rattle.laws.specs.Map.{flat-nil, flat-same}

pub choices-all : (p : ℕ → Bool) (lists : List (List ℕ)) → all (all p) lists ≡ true → all (all p) (choices lists) ≡ true
unfolding choices all
choices-all p [] h = refl
choices-all p (xs ∷ rest) h = go (first-holds (all p xs) (all (all p) rest) h) (choices-all p rest (second-holds (all p xs) (all (all p) rest) h))
  where
    go : all p xs ≡ true → all (all p) (choices rest) ≡ true → all (all p) (flat_map (λ x. map (λ c. x ∷ c) (choices rest)) xs) ≡ true
    go a ih =
        all-flat (all p) (λ x. map (λ c. x ∷ c) (choices rest)) xs
        (λ x k. all-mapped (all p) (λ c. x ∷ c) (choices rest)
        ∙ all-weaken (all p) (λ c. p x && all p c) (choices rest) (λ c e. rw (all-member p x xs a k) e) ih)

-- each choice takes its members from the lists
pub choices-beside : (f : ℕ → List ℕ) (xs : List ℕ) → Every (Beside (λ x y. has y (f x) ≡ true) xs) (choices (map f xs))
unfolding Every Beside choices
choices-beside f [] = (tt, tt)
choices-beside f (x ∷ xs) =
    every-flat _ (λ y. has y (f x) ≡ true) (λ y. map (λ c. y ∷ c) (choices (map f xs)))
    (λ y k. every-map _ (Beside (λ x y. has y (f x) ≡ true) xs) (λ c. y ∷ c) (λ c q. (k, q)) (choices (map f xs)) (choices-beside f xs)) (f x)
    (every-member (λ y. has y (f x) ≡ true) (f x) (λ y k. k))

-- a choice of one member from each list is among them
pub choices-any : (p : List ℕ → Bool) (f : ℕ → List ℕ) (h : ℕ → ℕ) (xs : List ℕ) → Every (λ x. has (h x) (f x) ≡ true) xs → p (map h xs) ≡ true → any p (choices (map f xs)) ≡ true
unfolding Every choices
choices-any p f h [] k e = unfold any in rw e
choices-any p f h (x ∷ xs) k e =
    any-flat p (λ y. map (λ c. y ∷ c) (choices (map f xs))) (f x)
    ∙ any-member (λ y. any p (map (λ c. y ∷ c) (choices (map f xs)))) (h x) (f x) k.0
    (any-map p (λ c. h x ∷ c) (choices (map f xs)) ∙ choices-any (λ c. p (h x ∷ c)) f h xs k.1 e)

-- how many there are
pub flat-length : (cs : List (List ℕ)) (xs : List ℕ) → length (flat_map (λ x. map (λ c. x ∷ c) cs) xs) ≡ length xs * length cs
unfolding flat_map
flat-length cs [] = sym (zero-mul (length cs))
flat-length cs (x ∷ xs) =
    length-append (map (λ c. x ∷ c) cs) (flat_map (λ x. map (λ c. x ∷ c) cs) xs)
    ∙ rw (length-map cs (λ c. x ∷ c), flat-length cs xs, suc-mul) (add_comm (length cs) (length xs * length cs))

pub choices-length : (lists : List (List ℕ)) → length (choices lists) ≡ product (map length lists)
unfolding choices product
choices-length [] = refl
choices-length (xs ∷ lists) = flat-length (choices lists) xs ∙ ap (λ n. length xs * n) (choices-length lists)

-- ---- the choices that have a given element: it is fixed in the list that has it
keep-none : (o : ℕ) (xs : List ℕ) → has o xs ≡ false → keep (eqb o) xs ≡ []
unfolding keep has
keep-none o [] h = refl
keep-none o (x ∷ xs) h = go (eqb o x) refl h (keep-none o xs)
  where
    go : (t : Bool) → eqb o x ≡ t → (t || has o xs) ≡ false → (has o xs ≡ false → keep (eqb o) xs ≡ []) → keep (eqb o) (x ∷ xs) ≡ []
    go true e h ih = absurd (true≢false h)
    go false e h ih = rw e (ih h)

with-o : (o x : ℕ) → eqb o x ≡ true → (cs : List (List ℕ)) → keep (has o) (map (λ c. x ∷ c) cs) ≡ map (λ c. x ∷ c) cs
unfolding keep has
with-o o x e [] = refl
with-o o x e (c ∷ cs) = rw e (ap (λ l. (x ∷ c) ∷ l) (with-o o x e cs))

without-o : (o x : ℕ) → eqb o x ≡ false → (cs : List (List ℕ)) → keep (has o) (map (λ c. x ∷ c) cs) ≡ map (λ c. x ∷ c) (keep (has o) cs)
unfolding keep has
without-o o x e [] = refl
without-o o x e (c ∷ cs) = rw e (go (has o c) (without-o o x e cs))
  where
    go : (t : Bool) → keep (has o) (map (λ c. x ∷ c) cs) ≡ map (λ c. x ∷ c) (keep (has o) cs)
        → cond t ((x ∷ c) ∷ []) [] ++ keep (has o) (map (λ c. x ∷ c) cs) ≡ map (λ c. x ∷ c) (cond t (c ∷ []) [] ++ keep (has o) cs)
    go true ih = ap (λ l. (x ∷ c) ∷ l) ih
    go false ih = ih

-- a list in which o is the only one left, if it is there
abbrev pub narrow : ℕ → List ℕ → List ℕ
narrow o xs = cond (has o xs) (o ∷ []) xs

-- o stands in one of the lists at most, and once there
unfoldable pub Once : ℕ → List (List ℕ) → Type 0
Once o [] = Unit {0}
Once o (xs ∷ rest) = (has o xs ≡ true → (any (has o) rest ≡ false) × (keep (eqb o) xs ≡ o ∷ [])) × Once o rest

narrow-none : (o : ℕ) (lists : List (List ℕ)) → any (has o) lists ≡ false → map (narrow o) lists ≡ lists
unfolding any
narrow-none o [] h = refl
narrow-none o (xs ∷ lists) h = go (has o xs) refl h (narrow-none o lists)
  where
    go : (t : Bool) → has o xs ≡ t → (t || any (has o) lists) ≡ false → (any (has o) lists ≡ false → map (narrow o) lists ≡ lists)
        → map (narrow o) (xs ∷ lists) ≡ xs ∷ lists
    go true e h ih = absurd (true≢false h)
    go false e h ih = rw e (ap (λ l. xs ∷ l) (ih h))

-- o is the one node of the list that counts, since none of the other choices has it
one-node : (o : ℕ) (cs : List (List ℕ)) (xs : List ℕ) → keep (eqb o) xs ≡ o ∷ [] → keep (has o) cs ≡ []
    → flat_map (λ x. keep (has o) (map (λ c. x ∷ c) cs)) xs ≡ map (λ c. o ∷ c) cs ++ []
unfolding flat_map
one-node o cs xs one gone =
    flat-same (λ x. keep (has o) (map (λ c. x ∷ c) cs)) (λ x. cond (eqb o x) (map (λ c. x ∷ c) cs) []) xs (λ x h. pick x (eqb o x) refl)
    ∙ sym (flat-keep (λ x. map (λ c. x ∷ c) cs) (eqb o) xs)
    ∙ ap (flat_map (λ x. map (λ c. x ∷ c) cs)) one
  where
    pick : (x : ℕ) (t : Bool) → eqb o x ≡ t → keep (has o) (map (λ c. x ∷ c) cs) ≡ cond t (map (λ c. x ∷ c) cs) []
    pick x true e = with-o o x e cs
    pick x false e = without-o o x e cs ∙ rw gone

-- o is not in the list, so that the other choices decide
not-here : (o : ℕ) (xs : List ℕ) (x : ℕ) → has o xs ≡ false → has x xs ≡ true → eqb o x ≡ false
not-here o xs x h k = go (eqb o x) refl
  where
    go : (t : Bool) → eqb o x ≡ t → eqb o x ≡ false
    go true e = absurd (true≢false (sym k ∙ ap (λ z. has z xs) (sym (eqb-true o x e)) ∙ h))
    go false e = e

no-node : (o : ℕ) (cs : List (List ℕ)) (xs : List ℕ) → has o xs ≡ false
    → flat_map (λ x. keep (has o) (map (λ c. x ∷ c) cs)) xs ≡ flat_map (λ x. map (λ c. x ∷ c) (keep (has o) cs)) xs
no-node o cs xs h = flat-same _ _ xs (λ x k. without-o o x (not-here o xs x h k) cs)

pub keep-has : (o : ℕ) (lists : List (List ℕ)) → Once o lists
    → keep (has o) (choices lists) ≡ cond (any (has o) lists) (choices (map (narrow o) lists)) []
unfolding any choices Once keep has flat_map
keep-has o [] once = refl
keep-has o (xs ∷ rest) once = keep-flat (has o) (λ x. map (λ c. x ∷ c) (choices rest)) xs ∙ go (has o xs) refl (any (has o) rest) refl (keep-has o rest once.1)
  where
    go : (t : Bool) → has o xs ≡ t → (a : Bool) → any (has o) rest ≡ a
        → keep (has o) (choices rest) ≡ cond (any (has o) rest) (choices (map (narrow o) rest)) []
        → flat_map (λ x. keep (has o) (map (λ c. x ∷ c) (choices rest))) xs ≡ cond (has o xs || any (has o) rest) (choices (narrow o xs ∷ map (narrow o) rest)) []
    go true e a ea ih =
        let o1 = once.0 e in
        one-node o (choices rest) xs o1.1 (ih ∙ rw o1.0) ∙ rw (e, narrow-none o rest o1.0)
    go false e true ea ih = no-node o (choices rest) xs e ∙ rw (e, ih, ea)
    go false e false ea ih = no-node o (choices rest) xs e ∙ rw (e, ih, ea) (flat-nil xs)

-- in a strictly ascending list a node that is there stands once
pub strict-once : (n : ℕ) (xs : List ℕ) (o : ℕ) → From n xs → has o xs ≡ true → keep (eqb o) xs ≡ o ∷ []
unfolding From keep has
strict-once n [] o f h = absurd (false≢true h)
strict-once n (x ∷ xs) o f h = go (eqb o x) refl h (strict-once (suc x) xs o f.1)
  where
    go : (t : Bool) → eqb o x ≡ t → (t || has o xs) ≡ true → (has o xs ≡ true → keep (eqb o) xs ≡ o ∷ []) → keep (eqb o) (x ∷ xs) ≡ o ∷ []
    go true e h ih =
        let q = eqb-true o x e in
        rw (e, keep-none o xs (rw (← q) at (below x (suc x) xs f.1 (omega arith))), q)
    go false e h ih = rw e (ih h)
