-- Binary search in ascending words: where it ends, which words lie before and after, and whether a word is there. Assumes nothing.
use native.Mathlib.Omega.{arith}
use Rattle.std.proofs.Math.Decide.{dec_le}
use Rattle.std.specs.Prelude.{◌≡◌, Bool, true, false, cond, ◌&&◌, ◌||◌, List, [], ◌∷◌, ℕ, zero, suc, ◌+◌, ◌-◌, ◌/◌, ◌≤◌, ◌<◌, length, get_or, eqb, leb, ltb}
use Rattle.std.proofs.Math.Path.{refl}
use Rattle.std.proofs.Common.{sym, ap, ◌∙◌, true≢false, le-leb, lt-ltb, le-ltb, eq-eqb, ne_eqb}
use Prim.Native.Nat.compare
use Rattle.std.proofs.Math.Seq.{slice}
use Rattle.std.proofs.lemmas.Bool.{lt-leb}
use Rattle.rules.specs.Lists.{halving, has, keep}
use Rattle.laws.specs.Strict.{From, Strict}
use Rattle.laws.specs.Keep.{keep-yes, keep-no}
use Rattle.laws.specs.Halving.{halving-up, halving-down, halving-end}

-- ---- a search ends where its test turns from true to false, if it turns once
pub record Splits (p : ℕ → Bool) (n r : ℕ) : Type 0 where
  pub within : r ≤ n
  pub before : (i : ℕ) → i < r → p i ≡ true
  pub after : (i : ℕ) → r ≤ i → i < n → p i ≡ false

module _ {p : ℕ → Bool} {n r : ℕ} (s : Splits p n r) where
  above : (i : ℕ) → i < n → p i ≡ true → Dec (r ≤ i) → i < r
  above i h e (yes q) = absurd (true≢false (sym e ∙ s.after i q h))
  above i h e (no q) = omega arith

  below : (i : ℕ) → p i ≡ false → Dec (r ≤ i) → r ≤ i
  below i e (yes q) = q
  below i e (no q) = absurd (true≢false (sym (s.before i (omega arith)) ∙ e))

  pub halving-finds : (steps low high : ℕ) → low ≤ r → r ≤ high → high ≤ n → high - low ≤ steps → halving p steps low high ≡ r
  halving-finds zero low high a b c d = halving-end p zero low high (omega arith) ∙ omega arith
  halving-finds (suc k) low high a b c d = go (dec_le high low) (p ((low + high) / 2)) refl (λ l h. halving-finds k l h)
    where
      go : Dec (high ≤ low) → (t : Bool) → p ((low + high) / 2) ≡ t
          → ((l h : ℕ) → l ≤ r → r ≤ h → h ≤ n → h - l ≤ k → halving p k l h ≡ r) → halving p (suc k) low high ≡ r
      go (yes h) t e ih = halving-end p (suc k) low high h ∙ omega arith
      go (no h) true e ih =
          let q : (low + high) / 2 < r = above ((low + high) / 2) (omega arith) e (dec_le r ((low + high) / 2)) in
          halving-up p k low high (omega arith) e ∙ ih ((low + high) / 2 + 1) high (omega arith) b c (omega arith)
      go (no h) false e ih =
          let q : r ≤ (low + high) / 2 = below ((low + high) / 2) e (dec_le r ((low + high) / 2)) in
          halving-down p k low high (omega arith) e ∙ ih low ((low + high) / 2) a q (omega arith) (omega arith)

-- on any data the end lies within
pub halving-within : (p : ℕ → Bool) (steps low high : ℕ) → low ≤ high → halving p steps low high ≤ high
halving-within p zero low high h = unfold halving in h
halving-within p (suc k) low high h = go (dec_le high low) (p ((low + high) / 2)) refl (λ l u. halving-within p k l u)
  where
    go : Dec (high ≤ low) → (t : Bool) → p ((low + high) / 2) ≡ t → ((l u : ℕ) → l ≤ u → halving p k l u ≤ u) → halving p (suc k) low high ≤ high
    go (yes q) t e ih = rw (halving-end p (suc k) low high q) h
    go (no q) true e ih = rw (halving-up p k low high (omega arith) e) (ih ((low + high) / 2 + 1) high (omega arith))
    go (no q) false e ih = let m = ih low ((low + high) / 2) (omega arith) in rw (halving-down p k low high (omega arith) e) (omega arith)

-- ---- the first place in ws whose word is not below x, as binary search finds it
abbrev pub is_below : List ℕ → ℕ → ℕ → Bool
is_below ws x i = ltb (get_or ws i 0) x

unfoldable pub lower : ℕ → List ℕ → ℕ
lower x ws = halving (is_below ws x) (length ws) 0 (length ws)

-- x stands at that place
unfoldable pub stands_in : ℕ → List ℕ → Bool
stands_in x ws = ltb (lower x ws) (length ws) && eqb (get_or ws (lower x ws) 0) x

pub lower-within : (x : ℕ) (ws : List ℕ) → lower x ws ≤ length ws
unfolding lower
lower-within x ws = halving-within (is_below ws x) (length ws) 0 (length ws) (omega arith)

-- how many words at the front are below x
unfoldable rank : ℕ → List ℕ → ℕ
rank x [] = 0
rank x (y ∷ ys) = cond (ltb y x) (suc (rank x ys)) 0

rank-more : (x y : ℕ) (ys : List ℕ) → y < x → rank x (y ∷ ys) ≡ suc (rank x ys)
unfolding rank
rank-more x y ys h = rw (lt-ltb y x h)

rank-end : (x y : ℕ) (ys : List ℕ) → x ≤ y → rank x (y ∷ ys) ≡ 0
unfolding rank
rank-end x y ys h = rw (le-ltb y x h)

rank-within : (x : ℕ) (ws : List ℕ) → rank x ws ≤ length ws
unfolding rank
rank-within x [] = omega arith
rank-within x (y ∷ ys) = go (dec_le x y) (rank-within x ys)
  where
    go : Dec (x ≤ y) → rank x ys ≤ length ys → rank x (y ∷ ys) ≤ suc (length ys)
    go (yes h) ih = rw (rank-end x y ys h) (omega arith)
    go (no h) ih = rw (rank-more x y ys (omega arith)) (omega arith)

rank-before : (x : ℕ) (ws : List ℕ) (i : ℕ) → i < rank x ws → get_or ws i 0 < x
unfolding rank
rank-before x [] i h = absurd (omega arith)
rank-before x (y ∷ ys) i h = go (dec_le x y) i h (rank-before x ys)
  where
    go : Dec (x ≤ y) → (i : ℕ) → i < rank x (y ∷ ys) → ((j : ℕ) → j < rank x ys → get_or ys j 0 < x) → get_or (y ∷ ys) i 0 < x
    go (yes q) i h ih = absurd (omega (arith, rank-end x y ys q))
    go (no q) zero h ih = omega arith
    go (no q) (suc j) h ih = ih j (omega (arith, rank-more x y ys (omega arith)))

from-least : (n : ℕ) (ws : List ℕ) → From n ws → (i : ℕ) → i < length ws → n ≤ get_or ws i 0
unfolding From
from-least n [] f i h = absurd (omega arith)
from-least n (y ∷ ys) f zero h = f.0
from-least n (y ∷ ys) f (suc i) h = let a = f.0 in let b = from-least (suc y) ys f.1 i (omega arith) in omega arith

rank-none : (n x : ℕ) (ws : List ℕ) → From n ws → x ≤ n → rank x ws ≡ 0
unfolding From
rank-none n x [] f h = unfold rank in refl
rank-none n x (y ∷ ys) f h = let a = f.0 in rank-end x y ys (omega arith)

rank-after : (n x : ℕ) (ws : List ℕ) → From n ws → (i : ℕ) → rank x ws ≤ i → i < length ws → x ≤ get_or ws i 0
unfolding From rank
rank-after n x [] f i h k = absurd (omega arith)
rank-after n x (y ∷ ys) f i h k = go (dec_le x y) i h k (rank-after (suc y) x ys f.1)
  where
    go : Dec (x ≤ y) → (i : ℕ) → rank x (y ∷ ys) ≤ i → i < suc (length ys) → ((j : ℕ) → rank x ys ≤ j → j < length ys → x ≤ get_or ys j 0) → x ≤ get_or (y ∷ ys) i 0
    go (yes q) zero h k ih = q
    go (yes q) (suc j) h k ih = let a = from-least (suc y) ys f.1 j (omega arith) in omega arith
    go (no q) zero h k ih = absurd (omega (arith, rank-more x y ys (omega arith)))
    go (no q) (suc j) h k ih = ih j (omega (arith, rank-more x y ys (omega arith))) (omega arith)

module _ (x : ℕ) (ws : List ℕ) (s : Strict ws) where
  strict-splits : Splits (is_below ws x) (length ws) (rank x ws)
  strict-splits = record {
    within = rank-within x ws;
    before = λ i h. lt-ltb (get_or ws i 0) x (rank-before x ws i h);
    after = λ i h k. le-ltb (get_or ws i 0) x (rank-after 0 x ws s i h k);
  }

  lower-rank : lower x ws ≡ rank x ws
  unfolding lower
  lower-rank = halving-finds strict-splits (length ws) 0 (length ws) (omega arith) (rank-within x ws) (omega arith) (omega arith)

  -- the words before the place are below x, and those from it on are not
  pub before-lower : (i : ℕ) → i < lower x ws → get_or ws i 0 < x
  before-lower i h = rank-before x ws i (omega (arith, lower-rank))

  pub after-lower : (i : ℕ) → lower x ws ≤ i → i < length ws → x ≤ get_or ws i 0
  after-lower i h k = rank-after 0 x ws s i (omega (arith, lower-rank)) k

-- ---- members
not-among : (n x : ℕ) (ws : List ℕ) → From n ws → x < n → has x ws ≡ false
unfolding From has
not-among n x [] f h = refl
not-among n x (y ∷ ys) f h = let k = f.0 in rw (ne_eqb x y (λ e. omega arith)) (not-among (suc y) x ys f.1 (omega arith))

rank-has : (n x : ℕ) (ws : List ℕ) → From n ws → (ltb (rank x ws) (length ws) && eqb (get_or ws (rank x ws) 0) x) ≡ has x ws
unfolding From has
rank-has n x [] f = unfold rank in refl
rank-has n x (y ∷ ys) f = go (dec_le x y) (dec_le y x) (rank-has (suc y) x ys f.1)
  where
    go : Dec (x ≤ y) → Dec (y ≤ x) → (ltb (rank x ys) (length ys) && eqb (get_or ys (rank x ys) 0) x) ≡ has x ys
        → (ltb (rank x (y ∷ ys)) (suc (length ys)) && eqb (get_or (y ∷ ys) (rank x (y ∷ ys)) 0) x) ≡ (eqb x y || has x ys)
    go (yes h) (yes k) ih = rw (rank-end x y ys h, lt-ltb 0 (suc (length ys)) (omega arith), eq-eqb y x (omega arith), eq-eqb x y (omega arith))
    go (yes h) (no k) ih = rw (rank-end x y ys h, lt-ltb 0 (suc (length ys)) (omega arith), ne_eqb y x (λ e. omega arith), ne_eqb x y (λ e. omega arith), not-among (suc y) x ys f.1 (omega arith))
    go (no h) k ih = rw (rank-more x y ys (omega arith), ne_eqb x y (λ e. omega arith), compare.suc-suc) ih

-- in strictly ascending words the search finds exactly the members
pub stands-has : (x : ℕ) (ws : List ℕ) → Strict ws → stands_in x ws ≡ has x ws
unfolding stands_in
stands-has x ws s = rw (lower-rank x ws s) (rank-has 0 x ws s)

-- ---- parts
-- a word from a on and below b
abbrev pub between : ℕ → ℕ → ℕ → Bool
between a b w = leb a w && ltb w b

keep-none : (n a b : ℕ) (ws : List ℕ) → From n ws → b ≤ n → keep (between a b) ws ≡ []
unfolding From
keep-none n a b [] f h = unfold keep in refl
keep-none n a b (y ∷ ys) f h =
    let k = f.0 in
    let e : between a b y ≡ false = none (leb a y) in
    keep-no (between a b) y ys e ∙ keep-none (suc y) a b ys f.1 (omega arith)
  where
    none : (t : Bool) → (t && ltb y b) ≡ false
    none true = let k = f.0 in le-ltb y b (omega arith)
    none false = refl

rank-range : (n a b : ℕ) (ws : List ℕ) → From n ws → slice (rank a ws) (rank b ws) ws ≡ keep (between a b) ws
unfolding From
rank-range n a b [] f = unfold rank keep in refl
rank-range n a b (y ∷ ys) f = go (dec_le a y) (dec_le b y) (rank-range (suc y) a b ys f.1)
  where
    go : Dec (a ≤ y) → Dec (b ≤ y) → slice (rank a ys) (rank b ys) ys ≡ keep (between a b) ys → slice (rank a (y ∷ ys)) (rank b (y ∷ ys)) (y ∷ ys) ≡ keep (between a b) (y ∷ ys)
    go (yes h) (yes k) ih = rw (rank-end a y ys h, rank-end b y ys k) (sym (keep-none y a b (y ∷ ys) (omega arith, f.1) k))
    go (yes h) (no k) ih =
        let e : between a b y ≡ true = rw (le-leb a y h, lt-ltb y b (omega arith)) in
        let z : rank a ys ≡ 0 = rank-none (suc y) a ys f.1 (omega arith) in
        rw (rank-end a y ys h, rank-more b y ys (omega arith), keep-yes (between a b) y ys e) (ap (λ l. y ∷ l) (rw z at ih))
    go (no h) (yes k) ih = rw (rank-more a y ys (omega arith), rank-end b y ys k) (sym (keep-none y a b (y ∷ ys) (omega arith, f.1) k))
    go (no h) (no k) ih =
        let e : between a b y ≡ false = rw (lt-leb a y (omega arith)) in
        rw (rank-more a y ys (omega arith), rank-more b y ys (omega arith), keep-no (between a b) y ys e) ih

-- the words from a on and below b stand between two searches
pub range-of : (a b : ℕ) (ws : List ℕ) → Strict ws → slice (lower a ws) (lower b ws) ws ≡ keep (between a b) ws
range-of a b ws s = rw (lower-rank a ws s, lower-rank b ws s) (rank-range 0 a b ws s)

rank-order : (a b : ℕ) (ws : List ℕ) → a ≤ b → rank a ws ≤ rank b ws
rank-order a b [] h = unfold rank in omega arith
rank-order a b (y ∷ ys) h = go (dec_le a y) (dec_le b y) (rank-order a b ys h)
  where
    go : Dec (a ≤ y) → Dec (b ≤ y) → rank a ys ≤ rank b ys → rank a (y ∷ ys) ≤ rank b (y ∷ ys)
    go (yes p) q ih = rw (rank-end a y ys p) (omega arith)
    go (no p) (yes q) ih = absurd (omega arith)
    go (no p) (no q) ih = rw (rank-more a y ys (omega arith), rank-more b y ys (omega arith)) (omega arith)

pub lower-order : (a b : ℕ) (ws : List ℕ) → Strict ws → a ≤ b → lower a ws ≤ lower b ws
lower-order a b ws s h = rw (lower-rank a ws s, lower-rank b ws s) (rank-order a b ws h)
