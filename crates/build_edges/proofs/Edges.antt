-- The edges of a section as words: how many, which stands where, a search among them, and that right edges ascend. Assumes nothing.
use native.Mathlib.Omega.{arith}
use native.Mathlib.Decide.{dec_le}
use mathlib.Core.Path.{◌≡◌, ap, ◌∙◌}
use mathlib.Core.Bool.{Bool, true, false, ◌&&◌, ◌||◌}
use mathlib.Core.List.{List, map}
use Prim.Native.Nat.{ℕ, zero, suc, ◌+◌, ◌*◌, ◌≤◌, ◌<◌}
use lib.Dec.{eqb, ltb}
use lib.ListN.{length, get_or, length-map}
use borrow.Author.Tests.{le-ltb, lt-ltb, eqb-true, ltb-true}
use Rattle.rules.specs.Lists.{range}
use Rattle.laws.specs.Strict.{From, Strict}
use Rattle.rules.specs.Store.{edges_in, from_at, to_at, edge_before}
use Rattle.laws.specs.Cases.{first-holds, second-holds}
use Rattle.laws.specs.Searching.{stands_in}
use Rattle.build_edges.specs.Packed.{forward_at, forward_words, word_in, EdgesBelow}
use Rattle.laws.specs.Range.{length-range}

-- ---- a word is sought for ids below 65,536 alone
pub both-low : (ws : List ℕ) (u v : ℕ) → u < 65536 → v < 65536 → stands_in (u * 65536 + v) ws ≡ word_in ws u v
unfolding word_in
both-low ws u v h k = rw (lt-ltb u 65536 h, lt-ltb v 65536 k)

pub no-word : (ws : List ℕ) (u v : ℕ) → (u < 65536 → 65536 ≤ v) → false ≡ word_in ws u v
unfolding word_in
no-word ws u v f = go (dec_le 65536 u)
  where
    go : Dec (65536 ≤ u) → false ≡ word_in ws u v
    go (yes h) = rw (le-ltb u 65536 h)
    go (no h) = let k : u < 65536 = omega arith in rw (lt-ltb u 65536 k, le-ltb v 65536 (f k))

pub the-word : (ws : List ℕ) (u v : ℕ) {w : ℕ} → (u < 65536) × ((v < 65536) × (w ≡ u * 65536 + v)) → stands_in w ws ≡ word_in ws u v
the-word ws u v {w} h = ap (λ x. stands_in x ws) h.1.1 ∙ both-low ws u v h.0 h.1.0

-- ---- words made by numbers
pub length-words : (f : ℕ → ℕ) (n : ℕ) → length (map f (range 0 n)) ≡ n
length-words f n = length-map (range 0 n) f ∙ length-range 0 n

word-from : (f : ℕ → ℕ) (k n i : ℕ) → i < n → get_or (map f (range k n)) i 0 ≡ f (k + i)
unfolding range
word-from f k zero i h = absurd (omega arith)
word-from f k (suc n) zero h = let e : k ≡ k + 0 = omega arith in ap f e
word-from f k (suc n) (suc i) h = let e : k + 1 + i ≡ k + suc i = omega arith in word-from f (k + 1) n i (omega arith) ∙ ap f e

number-from : (k n i : ℕ) → i < n → get_or (range k n) i 0 ≡ k + i
unfolding range
number-from k zero i h = absurd (omega arith)
number-from k (suc n) zero h = omega arith
number-from k (suc n) (suc i) h = let e : k + 1 + i ≡ k + suc i = omega arith in number-from (k + 1) n i (omega arith) ∙ e

pub number-at : (n i : ℕ) → i < n → get_or (range 0 n) i 0 ≡ i
number-at n i h = let e : 0 + i ≡ i = omega arith in number-from 0 n i h ∙ e

words-from : (f : ℕ → ℕ) (b k n : ℕ) → (0 < n → b ≤ f k) → ((i : ℕ) → i + 1 < k + n → f i < f (i + 1)) → From b (map f (range k n))
unfolding range From
words-from f b k zero low up = tt
words-from f b k (suc n) low up =
    (low (omega arith), words-from f (suc (f k)) (k + 1) n (λ p. up k (omega arith)) (λ i h. up i (omega arith)))

-- ---- the words of edges
pub length-edges : (edges : List ℕ) → length (forward_words edges) ≡ edges_in edges
unfolding forward_words
length-edges edges = length-words (forward_at edges) (edges_in edges)

pub edge-word : (edges : List ℕ) (i : ℕ) → i < edges_in edges → get_or (forward_words edges) i 0 ≡ forward_at edges i
unfolding forward_words
edge-word edges i h = let e : 0 + i ≡ i = omega arith in word-from (forward_at edges) 0 (edges_in edges) i h ∙ ap (forward_at edges) e

pub word-fits : (edges : List ℕ) (i : ℕ) → EdgesBelow edges → i < edges_in edges → forward_at edges i < 4294967296
unfolding forward_at
word-fits edges i b h = let f = b.from i h in let t = b.to i h in omega arith

-- ---- an edge before another has the lesser word
same-from : (x y : ℕ) (s : Bool) → y ≤ x → (ltb x y || eqb x y && s) ≡ true → (x ≡ y) × (s ≡ true)
same-from x y s q h =
    let both : (eqb x y && s) ≡ true = rw (le-ltb x y q) at h in
    (eqb-true x y (first-holds (eqb x y) s both), second-holds (eqb x y) s both)

pub less-word : (edges : List ℕ) (i j : ℕ) → to_at edges i < 65536 → edge_before edges i j ≡ true → forward_at edges i < forward_at edges j
unfolding edge_before forward_at
less-word edges i j k h = go (dec_le (from_at edges j) (from_at edges i))
  where
    go : Dec (from_at edges j ≤ from_at edges i) → from_at edges i * 65536 + to_at edges i < from_at edges j * 65536 + to_at edges j
    go (yes q) =
        let s = same-from (from_at edges i) (from_at edges j) (ltb (to_at edges i) (to_at edges j)) q h in
        let e = s.0 in
        let l = ltb-true (to_at edges i) (to_at edges j) s.1 in
        omega arith
    go (no q) = omega arith

pub words-strict : (edges : List ℕ) → ((i : ℕ) → i + 1 < edges_in edges → forward_at edges i < forward_at edges (i + 1)) → Strict (forward_words edges)
unfolding forward_words
words-strict edges up = words-from (forward_at edges) 0 0 (edges_in edges) (λ p. omega arith) (λ i h. up i (omega arith))
