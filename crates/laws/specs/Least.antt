-- The smallest way among all choices of one node from each list: the best node of each list. Assumes nothing.
use Rattle.std.specs.Prelude.{◌≡◌, Bool, cond, ◌&&◌, ℕ, ◌*◌, ◌≤◌, ◌<◌}
use Rattle.std.proofs.Math.Path.{refl, ap}
use Rattle.std.proofs.Common.{sym, ◌∙◌, mul_assoc, mul-le-mul_left, mul-le-mul_right, mul-lt-mul_of_pos_right, lt-ltb, le-ltb}
use Rattle.std.proofs.Math.Bool.{true, false, not}
use Rattle.std.proofs.lemmas.Bool.{false≢true, eqb-false, not-true}
use mathlib.Core.List.{List, [], ◌∷◌, map, flat_map, map-map}
use Rattle.std.proofs.Math.Option.{Option, some, none}
use Rattle.std.proofs.Math.Decide.{dec_le}
use Rattle.std.proofs.Math.Nat.{mul-pos, mul-lt-mul_of_pos_left}
use native.Mathlib.Omega.{arith}
use Rattle.std.proofs.Math.Dec.{ltb, eqb}
use Rattle.rules.specs.Lists.{all, product, choices}
use Rattle.rules.specs.Plan.{smaller, smallest, row_of}
use Rattle.rules.specs.declared.Row.{Row}
use Rattle.laws.specs.Cases.{first-holds, second-holds, not-zero}
use Rattle.laws.specs.Smallest.{better, smallest-append}
use Rattle.laws.specs.Map.{map-flat}

-- a node by itself as a way, with its figure
abbrev pub node_only : (ℕ → ℕ) → ℕ → Row
node_only f w = row_of 0 w w 0 [] (f w)

-- the best node of a list
abbrev pub least : (ℕ → ℕ) → List ℕ → Option Row
least f xs = smallest (map (node_only f) xs)

-- what is made of the best way, if there is one
abbrev pub via : {A B : Type 0} → (A → B) → Option A → Option B
via g none = none
via g (some a) = some (g a)

-- the best node of each list, if each has one
unfoldable pub least_each : (ℕ → ℕ) → List (List ℕ) → Option (List ℕ)
least_each f [] = some []
least_each f (xs ∷ rest) = elim (least f xs) [ none ↦ none | some r ↦ via (λ c. r.number ∷ c) (least_each f rest) ]

-- ---- what the best node of a list is: its figure is its own, and not 0 where none is
module _ (f : ℕ → ℕ) where
  abbrev pub Good : Row → Type 0
  Good r = (r.figure ≡ f r.number) × (0 < f r.number)

  abbrev pub GoodIf : Option Row → Type 0
  GoodIf none = Unit {0}
  GoodIf (some r) = Good r

  good-pick : (x : ℕ) (o : Option Row) → GoodIf o → 0 < f x → Good (smaller (node_only f x) o)
  unfolding smaller row_of
  good-pick x none g k = (refl, k)
  good-pick x (some r) g k = go (ltb r.figure (f x))
    where
      go : (t : Bool) → Good (cond t r (node_only f x))
      go true = g
      go false = (refl, k)

  pub least-good : (xs : List ℕ) → all (λ w. not (eqb (f w) 0)) xs ≡ true → GoodIf (least f xs)
  unfolding all smallest
  least-good [] h = tt
  least-good (x ∷ xs) h = go (eqb (f x) 0) refl h (least-good xs)
    where
      go : (t : Bool) → eqb (f x) 0 ≡ t → (not t && all (λ w. not (eqb (f w) 0)) xs) ≡ true
          → (all (λ w. not (eqb (f w) 0)) xs ≡ true → GoodIf (least f xs)) → GoodIf (least f (x ∷ xs))
      go true e h ih = absurd (false≢true h)
      go false e h ih = good-pick x (least f xs) (ih h) (not-zero (f x) (eqb-false (f x) 0 e))

  -- the chosen nodes have figures that are not 0, so neither is their product
  abbrev PositiveIf : Option (List ℕ) → Type 0
  PositiveIf none = Unit {0}
  PositiveIf (some c) = 0 < product (map f c)

  pub each-positive : (lists : List (List ℕ)) → all (all (λ w. not (eqb (f w) 0))) lists ≡ true → PositiveIf (least_each f lists)
  unfolding all least_each product
  each-positive [] h = omega arith
  each-positive (xs ∷ lists) h =
      go (least f xs) refl (least-good xs (first-holds _ (all (all (λ w. not (eqb (f w) 0))) lists) h)) (least_each f lists)
      (each-positive lists (second-holds (all (λ w. not (eqb (f w) 0)) xs) _ h))
    where
      go : (o : Option Row) → least f xs ≡ o → GoodIf (least f xs) → (rest : Option (List ℕ)) → PositiveIf rest
          → PositiveIf (elim o [ none ↦ none | some r ↦ via (λ c. r.number ∷ c) rest ])
      go none e g rest k = tt
      go (some r) e g none k = tt
      go (some r) e g (some c) k =
          let good : Good r = rw e at g in
          mul-pos good.1 k

-- ---- the smallest way among all choices
-- a common factor changes no comparison
factor : (n P x y : ℕ) → 0 < n → 0 < P → ltb (n * (x * P)) (n * (y * P)) ≡ ltb x y
factor n P x y hn hP = go (dec_le y x)
  where
    go : Dec (y ≤ x) → ltb (n * (x * P)) (n * (y * P)) ≡ ltb x y
    go (yes h) = le-ltb (n * (x * P)) (n * (y * P)) (mul-le-mul_left n (mul-le-mul_right P h)) ∙ sym (le-ltb x y h)
    go (no h) =
        let k : x < y = omega arith in
        lt-ltb (n * (x * P)) (n * (y * P)) (mul-lt-mul_of_pos_left (mul-lt-mul_of_pos_right k hP) hn) ∙ sym (lt-ltb x y k)

-- the way that the best node of a list leads to, with the best choice for the other lists
abbrev lead : (List ℕ → Row) → Option (List ℕ) → Option Row → Option Row
lead mk rest none = none
lead mk rest (some r) = via (λ c. mk (r.number ∷ c)) rest

module _ (f : ℕ → ℕ) (n : ℕ) (hn : 0 < n) (mk : List ℕ → Row) (figure : (c : List ℕ) → (mk c).figure ≡ n * product (map f c)) where
  -- one node more in front
  lead-more : (c : List ℕ) → 0 < product (map f c) → (x : ℕ) (o : Option Row) → GoodIf f o
      → better (some (mk (x ∷ c))) (lead mk (some c) o) ≡ lead mk (some c) (some (smaller (node_only f x) o))
  unfolding smaller row_of product
  lead-more c k x none g = refl
  lead-more c k x (some r) g = ap some (rw test (sym (pick (ltb r.figure (f x)))))
    where
      test : ltb (mk (r.number ∷ c)).figure (mk (x ∷ c)).figure ≡ ltb r.figure (f x)
      test = rw (figure (r.number ∷ c), figure (x ∷ c), g.0) (factor n (product (map f c)) (f r.number) (f x) hn k)

      pick : (t : Bool) → mk ((cond t r (node_only f x)).number ∷ c) ≡ cond t (mk (r.number ∷ c)) (mk (x ∷ c))
      pick true = refl
      pick false = refl

  held : (x : ℕ) → not (eqb (f x) 0) ≡ true → 0 < f x
  held x h = not-zero (f x) (eqb-false (f x) 0 (not-true (eqb (f x) 0) h))

  -- every node of the list leads to the same choice for the others
  first-best : (rest : Option (List ℕ)) → PositiveIf f rest → (h : ℕ → List Row) → ((x : ℕ) → 0 < f x → smallest (h x) ≡ via (λ c. mk (x ∷ c)) rest)
      → (xs : List ℕ) → all (λ w. not (eqb (f w) 0)) xs ≡ true → smallest (flat_map h xs) ≡ lead mk rest (least f xs)
  unfolding flat_map smallest all
  first-best rest k h each [] pos = refl
  first-best none k h each (x ∷ xs) pos =
      smallest-append (h x) (flat_map h xs)
      ∙ rw (each x (held x (first-holds (not (eqb (f x) 0)) _ pos))) (first-best none k h each xs (second-holds (not (eqb (f x) 0)) _ pos) ∙ nothing (least f xs))
    where
      nothing : (o : Option Row) → lead mk none o ≡ none
      nothing none = refl
      nothing (some r) = refl
  first-best (some c) k h each (x ∷ xs) pos =
      let later = second-holds (not (eqb (f x) 0)) (all (λ w. not (eqb (f w) 0)) xs) pos in
      smallest-append (h x) (flat_map h xs)
      ∙ rw (each x (held x (first-holds (not (eqb (f x) 0)) _ pos)), first-best (some c) k h each xs later) (lead-more c k x (least f xs) (least-good f xs later))

each-lead : (f : ℕ → ℕ) (mk : List ℕ → Row) (xs : List ℕ) (rest : List (List ℕ)) → lead mk (least_each f rest) (least f xs) ≡ via mk (least_each f (xs ∷ rest))
unfolding least_each
each-lead f mk xs rest = go (least f xs) (least_each f rest)
  where
    go : (o : Option Row) (c : Option (List ℕ)) → lead mk c o ≡ via mk (elim o [ none ↦ none | some r ↦ via (λ c. r.number ∷ c) c ])
    go none c = refl
    go (some r) none = refl
    go (some r) (some c) = refl

-- the smallest way is the one that takes the best node of each list
pub each-smallest : (f : ℕ → ℕ) (lists : List (List ℕ)) → all (all (λ w. not (eqb (f w) 0))) lists ≡ true
    → (n : ℕ) → 0 < n → (mk : List ℕ → Row) → ((c : List ℕ) → (mk c).figure ≡ n * product (map f c))
    → smallest (map mk (choices lists)) ≡ via mk (least_each f lists)
unfolding choices all smallest smaller least_each product
each-smallest f [] pos n hn mk figure = refl
each-smallest f (xs ∷ lists) pos n hn mk figure =
    let own = first-holds (all (λ w. not (eqb (f w) 0)) xs) (all (all (λ w. not (eqb (f w) 0))) lists) pos in
    let others = second-holds (all (λ w. not (eqb (f w) 0)) xs) (all (all (λ w. not (eqb (f w) 0))) lists) pos in
    ap smallest (map-flat mk (λ x. map (λ c. x ∷ c) (choices lists)) xs)
    ∙ first-best f n hn mk figure (least_each f lists) (each-positive f lists others) (λ x. map mk (map (λ c. x ∷ c) (choices lists)))
    (each (each-smallest f lists others)) xs own
    ∙ each-lead f mk xs lists
  where
    each : ((n : ℕ) → 0 < n → (mk : List ℕ → Row) → ((c : List ℕ) → (mk c).figure ≡ n * product (map f c)) → smallest (map mk (choices lists)) ≡ via mk (least_each f lists))
        → (x : ℕ) → 0 < f x → smallest (map mk (map (λ c. x ∷ c) (choices lists))) ≡ via (λ c. mk (x ∷ c)) (least_each f lists)
    each ih x h =
        ap smallest (map-map mk (λ c. x ∷ c) (choices lists))
        ∙ ih (n * f x) (mul-pos hn h) (λ c. mk (x ∷ c)) (λ c. figure (x ∷ c) ∙ sym (mul_assoc n (f x) (product (map f c))))
