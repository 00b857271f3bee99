-- Where the words of each node start: how many words lie before, the words of a node between two starts, and the loop that writes all starts. Assumes nothing.
use native.Mathlib.Omega.{arith}
use native.Mathlib.Decide.{dec_le, ℕ_discrete}
use mathlib.Core.Path.{◌≡◌, refl, sym, ap, ◌∙◌}
use mathlib.Core.Bool.{Bool, true, false}
use mathlib.Core.List.{List, [], ◌∷◌}
use Prim.Native.Nat.{ℕ, zero, suc, ◌+◌, ◌-◌, ◌*◌, ◌/◌, ◌≤◌, ◌<◌}
use lib.Dec.{ltb}
use lib.ListN.{length, get_or}
use lib.Seq.{slice, take-length}
use borrow.Author.Tests.{lt-ltb, le-ltb, le-leb, lt-leb, ltb-true}
use Rattle.rules.specs.Words.{part}
use Rattle.rules.specs.Lists.{keep}
use Rattle.laws.specs.Strict.{Strict, from-up}
use Rattle.rules.specs.Store.{edges_in, from_at}
use Rattle.laws.specs.Keep.{keep-yes, keep-no, keep-most, keep-fewer}
use Rattle.laws.specs.PartMembers.{part-slice}
use Rattle.laws.specs.Searching.{between}
use Rattle.build_edges.specs.Packed.{forward_at, forward_words, EdgesBelow}
use Rattle.build_edges.specs.Near.{words_of}
use Rattle.build_edges.specs.Starts.{start_of, Climbs, Begun, Filled}
use Rattle.build_edges.proofs.Edges.{edge-word}

-- ---- high halves that never descend, from n on
Up : ℕ → List ℕ → Type 0
Up n [] = Unit {0}
Up n (y ∷ ys) = (n ≤ y / 65536) × Up (y / 65536) ys

up-from : (n : ℕ) (ws : List ℕ) → (0 < length ws → n ≤ get_or ws 0 0 / 65536) → Climbs ws → Up n ws
unfolding Up
up-from n [] h c = tt
up-from n (y ∷ ys) h c =
    (h (omega arith), up-from (y / 65536) ys (λ p. c.up 0 1 (omega arith) (omega arith)) (record { up = λ i j a b. c.up (suc i) (suc j) (omega arith) (omega arith) }))

-- ---- how many lie below
module _ (v : ℕ) where
  start-yes : (y : ℕ) (ws : List ℕ) → y / 65536 < v → start_of (y ∷ ws) v ≡ suc (start_of ws v)
  unfolding start_of
  start-yes y ws h = ap length (keep-yes (λ w. ltb (w / 65536) v) y ws (lt-ltb (y / 65536) v h))

  start-no : (y : ℕ) (ws : List ℕ) → v ≤ y / 65536 → start_of (y ∷ ws) v ≡ start_of ws v
  unfolding start_of
  start-no y ws h = ap length (keep-no (λ w. ltb (w / 65536) v) y ws (le-ltb (y / 65536) v h))

  start-none : (n : ℕ) (ws : List ℕ) → v ≤ n → Up n ws → start_of ws v ≡ 0
  unfolding Up
  start-none n [] h u = unfold start_of keep in refl
  start-none n (y ∷ ws) h u = let k = u.0 in start-no y ws (omega arith) ∙ start-none (y / 65536) ws (omega arith) u.1

  pub start-most : (ws : List ℕ) → start_of ws v ≤ length ws
  unfolding start_of
  start-most ws = keep-most (λ w. ltb (w / 65536) v) ws

  -- r words lie below v if those before r do and the others do not
  pub start-here : (ws : List ℕ) (r : ℕ) → r ≤ length ws → ((i : ℕ) → i < r → get_or ws i 0 / 65536 < v) → ((i : ℕ) → r ≤ i → i < length ws → v ≤ get_or ws i 0 / 65536)
      → start_of ws v ≡ r
  start-here [] r h a b = unfold start_of keep in omega arith
  start-here (y ∷ ws) zero h a b =
      start-no y ws (b 0 (omega arith) (omega arith)) ∙ start-here ws zero (omega arith) (λ i p. absurd (omega arith)) (λ i p q. b (suc i) (omega arith) (omega arith))
  start-here (y ∷ ws) (suc r) h a b =
      start-yes y ws (a 0 (omega arith)) ∙ ap suc (start-here ws r (omega arith) (λ i p. a (suc i) (omega arith)) (λ i p q. b (suc i) (omega arith) (omega arith)))

pub start-order : (a b : ℕ) (ws : List ℕ) → a ≤ b → start_of ws a ≤ start_of ws b
unfolding start_of
start-order a b ws h = keep-fewer (λ w. ltb (w / 65536) b) (λ w. ltb (w / 65536) a) (λ w e. let k = ltb-true (w / 65536) a e in lt-ltb (w / 65536) b (omega arith)) ws

-- ---- the words of a node stand between two starts
module _ (v : ℕ) where
  abbrev mine : ℕ → Bool
  mine = between (v * 65536) ((v + 1) * 65536)

  none-mine : (n : ℕ) (ws : List ℕ) → v < n → Up n ws → keep mine ws ≡ []
  unfolding Up
  none-mine n [] h u = unfold keep in refl
  none-mine n (y ∷ ws) h u =
      let k = u.0 in
      let e : mine y ≡ false = rw (le-leb (v * 65536) y (omega arith), le-ltb y ((v + 1) * 65536) (omega arith)) in
      keep-no mine y ws e ∙ none-mine (y / 65536) ws (omega arith) u.1

  run-slice : (n : ℕ) (ws : List ℕ) → Up n ws → slice (start_of ws v) (start_of ws (v + 1)) ws ≡ keep mine ws
  unfolding Up
  run-slice n [] u = unfold start_of keep in refl
  run-slice n (y ∷ ws) u = go (dec_le v (y / 65536)) (dec_le (v + 1) (y / 65536)) (run-slice (y / 65536) ws u.1)
    where
      go : Dec (v ≤ y / 65536) → Dec (v + 1 ≤ y / 65536) → slice (start_of ws v) (start_of ws (v + 1)) ws ≡ keep mine ws
          → slice (start_of (y ∷ ws) v) (start_of (y ∷ ws) (v + 1)) (y ∷ ws) ≡ keep mine (y ∷ ws)
      go (no a) c ih =
          let e : mine y ≡ false = rw (lt-leb (v * 65536) y (omega arith)) in
          rw (start-yes v y ws (omega arith), start-yes (v + 1) y ws (omega arith), keep-no mine y ws e) ih
      go (yes a) (no c) ih =
          let e : mine y ≡ true = rw (le-leb (v * 65536) y (omega arith), lt-ltb y ((v + 1) * 65536) (omega arith)) in
          let z : start_of ws v ≡ 0 = start-none v (y / 65536) ws a u.1 in
          rw (start-no v y ws a, z, start-yes (v + 1) y ws (omega arith), keep-yes mine y ws e) (ap (λ l. y ∷ l) (rw z at ih))
      go (yes a) (yes c) ih =
          let z : start_of ws (v + 1) ≡ 0 = start-none (v + 1) (y / 65536) ws c u.1 in
          let t : start_of ws v ≡ 0 = start-none v (y / 65536) ws a u.1 in
          rw (start-no v y ws a, start-no (v + 1) y ws c, z, t) (sym (none-mine (y / 65536) (y ∷ ws) (omega arith) (omega arith, u.1)))

  pub run-between : (ws : List ℕ) (a e : ℕ) → Climbs ws → a ≡ start_of ws v → e ≡ start_of ws (v + 1) → part ws a e ≡ words_of ws v
  unfolding words_of
  run-between ws a e c p q =
      let n : length ws - 0 ≡ length ws = omega arith in
      let up : a ≤ e = rw (p, q) (start-order v (v + 1) ws (omega arith)) in
      let top : e ≤ length ws = rw q (start-most (v + 1) ws) in
      let whole : part ws 0 (length ws) ≡ ws = rw n (take-length ws) in
      let za : 0 + a ≡ a = omega arith in
      let ze : 0 + e ≡ e = omega arith in
      rw (za, ze) at (part-slice ws 0 (length ws) a e up (omega arith)) ∙ ap (slice a e) whole ∙ rw (p, q) (run-slice 0 ws (up-from 0 ws (λ h. omega arith) c))

-- ---- in the words of the code
module _ {words starts : List ℕ} (b : Begun words starts) (v : ℕ) (h : v < 65535) where
  pub run-order : get_or starts v 0 ≤ get_or starts (v + 1) 0
  run-order = rw (b.at v (omega arith), b.at (v + 1) (omega arith)) (start-order v (v + 1) words (omega arith))

  pub run-top : get_or starts (v + 1) 0 ≤ length words
  run-top = rw (b.at (v + 1) (omega arith)) (start-most (v + 1) words)

  pub run-found : part words (get_or starts v 0) (get_or starts (v + 1) 0) ≡ words_of words v
  run-found = run-between v words (get_or starts v 0) (get_or starts (v + 1) 0) b.climbs (b.at v (omega arith)) (b.at (v + 1) (omega arith))

-- ---- the loop that writes the starts: those below v are written, and the first i words have nodes below v
pub record Starting (words starts : List ℕ) (v i : ℕ) : Type 0 where
  pub ahead : i ≤ length words
  pub most : v ≤ 65536
  pub wrote : (x : ℕ) → x < v → get_or starts x 0 ≡ start_of words x
  pub below : (j : ℕ) → j < i → get_or words j 0 / 65536 < v

pub starting : (words starts : List ℕ) → Starting words starts 0 0
starting words starts = record { ahead = omega arith; most = omega arith; wrote = λ x h. absurd (omega arith); below = λ j h. absurd (omega arith) }

pub passed : {words starts : List ℕ} {v i : ℕ} → Starting words starts v i → (next : ℕ) → i < length words → next ≡ get_or words i 0 / 65536 + 1 → next ≤ v → Starting words starts v (i + 1)
passed {words} {starts} {v} {i} s next h e k = record {
  ahead = omega arith;
  most = s.most;
  wrote = s.wrote;
  below = λ j p. go j p (ℕ_discrete j i);
}
  where
    go : (j : ℕ) → j < i + 1 → Dec (j ≡ i) → get_or words j 0 / 65536 < v
    go j p (yes q) = rw q (omega arith)
    go j p (no q) = s.below j (omega arith)

-- a run written from v on
onward : {words starts : List ℕ} {v i : ℕ} → Climbs words → Starting words starts v i → (next : ℕ) (after : List ℕ) → v ≤ next → ((j : ℕ) → i ≤ j → j < length words → next ≤ get_or words j 0 / 65536 + 1)
    → Filled v next i starts after → (x : ℕ) → x < next → get_or after x 0 ≡ start_of words x
onward {words} {starts} {v} {i} c s next after k high f x h = go (dec_le v x)
  where
    go : Dec (v ≤ x) → get_or after x 0 ≡ start_of words x
    go (yes p) = f.run x p h ∙ sym (start-here x words i s.ahead (λ j q. let l = s.below j q in omega arith) (λ j q r. let l = high j q r in omega arith))
    go (no p) = f.front x (omega arith) ∙ s.wrote x (omega arith)

pub advanced : {words starts : List ℕ} {v i : ℕ} → Climbs words → Starting words starts v i → (next : ℕ) (after : List ℕ) → i < length words → next ≡ get_or words i 0 / 65536 + 1
    → next ≤ 65536 → v < next → Filled v next i starts after → Starting words after next (i + 1)
advanced {words} {starts} {v} {i} c s next after h e top k f = record {
  ahead = omega arith;
  most = top;
  wrote = onward c s next after (omega arith) (λ j p q. let l = c.up i j p q in omega arith) f;
  below = λ j p. let l = c.up j i (omega arith) h in omega arith;
}

pub started : {words starts : List ℕ} {v i : ℕ} → Climbs words → Starting words starts v i → (n : ℕ) (after : List ℕ) → n ≡ length words → n ≤ i → 65536 ≤ length after
    → Filled v 65536 n starts after → Begun words after
started {words} {starts} {v} {i} c s n after e h long f =
    let a = s.ahead in
    let q : n ≡ i = omega arith in
    record { climbs = c; long = long; at = onward c s 65536 after s.most (λ j p r. absurd (omega arith)) (rw q at f) }

-- ---- the words of edges
pub strict-climbs : (ws : List ℕ) → Strict ws → Climbs ws
strict-climbs ws s = record { up = λ i j h k. let a = (from-up 0 ws s i j h k).1 in omega arith }

pub edge-high : (edges : List ℕ) (i : ℕ) → EdgesBelow edges → i < edges_in edges → get_or (forward_words edges) i 0 / 65536 ≡ from_at edges i
unfolding forward_at
edge-high edges i b h = let k = b.to i h in ap (λ w. w / 65536) (edge-word edges i h) ∙ omega arith

pub edge-next : (edges : List ℕ) (i : ℕ) {from : ℕ} → EdgesBelow edges → i < edges_in edges → from ≡ from_at edges i → from + 1 ≡ get_or (forward_words edges) i 0 / 65536 + 1
edge-next edges i b h e = ap (λ n. n + 1) (e ∙ sym (edge-high edges i b h))
