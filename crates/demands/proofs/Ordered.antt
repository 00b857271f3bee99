-- A strictly ascending list of rows is determined by which rows are among it. Assumes nothing.
use Rattle.std.proofs.Common.{arith, sym, ap, ◌∙◌, true≢false, eq-eqb, ne_eqb, lt-ltb, le-ltb}
use Rattle.std.proofs.Math.Decide.{ℕ_discrete, dec_le}
use Rattle.std.specs.Prelude.{◌≡◌, refl, Bool, true, false, ◌||◌, List, [], ◌∷◌, ℕ, ◌≤◌}
use Rattle.std.proofs.lemmas.Bool.{false≢true}
use Rattle.rules.specs.Lists.{all, any}
use Rattle.rules.specs.Answers.{same}
use Rattle.laws.specs.Cases.{first-holds, second-holds}
use Rattle.laws.specs.Same.{same-equal, equal-same}
use Rattle.demands.specs.Exactly.{among, before, ascending}
use Rattle.demands.specs.Ordered.{Compared, first, equal, second}

-- ---- the order of rows
-- no row comes before itself
never-self : (row : List ℕ) → before row row ≡ false
unfolding before
never-self [] = refl
never-self (x ∷ row) = rw (le-ltb x x (omega arith), eq-eqb x x refl) (never-self row)

compared : (a b : List ℕ) → Compared a b
unfolding before
compared [] [] = equal refl
compared [] (y ∷ b) = first refl refl
compared (x ∷ a) [] = second refl refl
compared (x ∷ a) (y ∷ b) = go (ℕ_discrete x y) (dec_le x y) (compared a b)
  where
    go : Dec (x ≡ y) → Dec (x ≤ y) → Compared a b → Compared (x ∷ a) (y ∷ b)
    go (yes e) d (first p q) = first (rw (le-ltb x y (omega arith), eq-eqb x y e) p) (rw (le-ltb y x (omega arith), eq-eqb y x (sym e)) q)
    go (yes e) d (equal p) = equal (cc)
    go (yes e) d (second p q) = second (rw (le-ltb y x (omega arith), eq-eqb y x (sym e)) p) (rw (le-ltb x y (omega arith), eq-eqb x y e) q)
    go (no n) (yes l) c = first (rw (lt-ltb x y (omega arith))) (rw (le-ltb y x l, ne_eqb y x (λ e. n (sym e))))
    go (no n) (no l) c = second (rw (lt-ltb y x (omega arith))) (rw (le-ltb x y (omega arith), ne_eqb x y n))

-- ---- rows among some
among-first : (x : List ℕ) (xs : List (List ℕ)) → among x (x ∷ xs) ≡ true
unfolding among any
among-first x xs = rw (equal-same x x refl)

-- what every later row is, a row among them is
among-all : (q : List ℕ → Bool) (x : List ℕ) (xs : List (List ℕ)) → all q xs ≡ true → among x xs ≡ true → q x ≡ true
unfolding among any all
among-all q x [] h k = absurd (false≢true k)
among-all q x (y ∷ xs) h k = go (same x y) refl k (among-all q x xs (second-holds (q y) (all q xs) h))
  where
    go : (t : Bool) → same x y ≡ t → (t || any (same x) xs) ≡ true → (any (same x) xs ≡ true → q x ≡ true) → q x ≡ true
    go true e k ih = rw (same-equal x y e) (first-holds (q y) (all q xs) h)
    go false e k ih = ih k

-- a row that comes before the first is not among an ascending list
not-among : (x y : List ℕ) (ys : List (List ℕ)) → ascending (y ∷ ys) ≡ true → before x y ≡ true → before y x ≡ false → among x (y ∷ ys) ≡ false
unfolding among any ascending
not-among x y ys h p q = go (same x y) refl (any (same x) ys) refl
  where
    go : (s : Bool) → same x y ≡ s → (t : Bool) → any (same x) ys ≡ t → (s || t) ≡ false
    go true e t f = absurd (true≢false (sym p ∙ rw (same-equal x y e) (never-self y)))
    go false e true f = absurd (true≢false (sym (among-all (before y) x ys (first-holds (all (before y) ys) (ascending ys) h) f) ∙ q))
    go false e false f = refl

-- the first is not among the rest
rest-not : (x : List ℕ) (xs : List (List ℕ)) → ascending (x ∷ xs) ≡ true → among x xs ≡ false
unfolding ascending
rest-not x xs h = go (among x xs) refl
  where
    go : (t : Bool) → among x xs ≡ t → among x xs ≡ false
    go true e = absurd (true≢false (sym (among-all (before x) x xs (first-holds (all (before x) xs) (ascending xs) h) e) ∙ never-self x))
    go false e = e

-- the rest has the same rows
rests : (x : List ℕ) (xs ys : List (List ℕ)) → ascending (x ∷ xs) ≡ true → ascending (x ∷ ys) ≡ true → ((row : List ℕ) → among row (x ∷ xs) ≡ among row (x ∷ ys))
    → (row : List ℕ) → among row xs ≡ among row ys
unfolding among any
rests x xs ys h k alike row = go (same row x) refl
  where
    go : (t : Bool) → same row x ≡ t → any (same row) xs ≡ any (same row) ys
    go true e = rw (same-equal row x e) (rest-not x xs h ∙ sym (rest-not x ys k))
    go false e = rw e at (alike row)

-- Two strictly ascending lists with the same rows are equal.
pub same-rows : (xs ys : List (List ℕ)) → ascending xs ≡ true → ascending ys ≡ true → ((row : List ℕ) → among row xs ≡ among row ys) → xs ≡ ys
same-rows [] [] h k alike = refl
same-rows [] (y ∷ ys) h k alike = absurd (false≢true (unfold among any in (alike y ∙ among-first y ys)))
same-rows (x ∷ xs) [] h k alike = absurd (true≢false (unfold among any in (sym (among-first x xs) ∙ alike x)))
same-rows (x ∷ xs) (y ∷ ys) h k alike = go (compared x y) (same-rows xs ys)
  where
    later : (z : List ℕ) (zs : List (List ℕ)) → ascending (z ∷ zs) ≡ true → ascending zs ≡ true
    later z zs a = second-holds (all (before z) zs) (ascending zs) (unfold ascending in a)

    go : Compared x y → (ascending xs ≡ true → ascending ys ≡ true → ((row : List ℕ) → among row xs ≡ among row ys) → xs ≡ ys) → x ∷ xs ≡ y ∷ ys
    go (first p q) ih = absurd (true≢false (sym (among-first x xs) ∙ alike x ∙ not-among x y ys k p q))
    go (second p q) ih = absurd (true≢false (sym (among-first y ys) ∙ sym (alike y) ∙ not-among y x xs h p q))
    go (equal e) ih =
        let k' : ascending (x ∷ ys) ≡ true = rw e k in
        let alike' : (row : List ℕ) → among row (x ∷ xs) ≡ among row (x ∷ ys) = λ row. alike row ∙ ap (λ z. among row (z ∷ ys)) (sym e) in
        let rest : xs ≡ ys = ih (later x xs h) (later x ys k') (rests x xs ys h k' alike') in
        cc
