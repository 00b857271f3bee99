-- Laws of a turn over the words that say what is tried: the words of one node stand together, and the nodes that it passes over are joined with none of the list. Assumes nothing.
use native.Mathlib.Omega.{arith}
use native.Mathlib.Decide.{dec_le}
use mathlib.Core.Path.{◌≡◌, refl, sym, ap, ◌∙◌}
use mathlib.Core.Bool.{Bool, true, true≢false, false≢true}
use mathlib.Core.List.{List, [], ◌∷◌, ◌++◌, flat_map}
use Prim.Native.Nat.{ℕ, suc, ◌+◌, ◌-◌, ◌*◌, ◌/◌, ◌≤◌, ◌<◌}
use lib.Dec.{leb}
use lib.ListN.{length, take, get_or}
use lib.Seq.{slice}
use borrow.Author.Tests.{le-leb, lt-leb, ne_eqb}
use Rattle.rules.specs.Words.{part}
use Rattle.rules.specs.Lists.{has, keep}
use Rattle.laws.specs.Strict.{From, below}
use Rattle.laws.specs.Cases.{second-holds}
use Rattle.laws.specs.Has.{first-has, later-has, has-get}
use Rattle.laws.specs.Keep.{keep-yes, keep-no, has-keep, keep-from}
use Rattle.laws.specs.Slices.{slice-none}
use Rattle.laws.specs.PartMembers.{part-slice}
use Rattle.laws.specs.Searching.{lower, before-lower, after-lower, lower-within, lower-order, range-of}
use Rattle.build_edges.specs.Packed.{word_in, labelled_in}
use Rattle.build_edges.specs.Near.{words_of}
use Rattle.build_neighbours.specs.Pairs.{part_told, Paired}
use Rattle.build_neighbours.specs.Side.{Listed}

-- ---- members
-- some of a list of nodes labelled l are one
pub listed-keep : {nodes list : List ℕ} {l : ℕ} (p : ℕ → Bool) → Listed nodes l list → Listed nodes l (keep p list)
listed-keep {nodes} {list} {l} p d = record {
  ascends = keep-from p 0 list d.ascends;
  labelled = λ v h. d.labelled v (second-holds (p v) (has v list) (sym (has-keep p v list) ∙ h));
}

-- ---- what is left from a bound on
pub keep-high : (b n : ℕ) (l : List ℕ) → From n l → b ≤ n → keep (leb b) l ≡ l
unfolding From
keep-high b n [] f h = unfold keep in refl
keep-high b n (y ∷ l) f h =
    let k = f.0 in
    keep-yes (leb b) y l (le-leb b y (omega arith)) ∙ ap (λ t. y ∷ t) (keep-high b (suc y) l f.1 (omega arith))

module _ {B : Type 0} (g : ℕ → List B) (b : ℕ) where
  pub flat-none : (l : List ℕ) → ((x : ℕ) → has x l ≡ true → b ≤ x → g x ≡ []) → flat_map g (keep (leb b) l) ≡ []
  unfolding flat_map
  flat-none [] h = unfold keep in refl
  flat-none (y ∷ l) h = go (dec_le b y) (flat-none l (λ x k. h x (later-has y x l k)))
    where
      go : Dec (b ≤ y) → flat_map g (keep (leb b) l) ≡ [] → flat_map g (keep (leb b) (y ∷ l)) ≡ []
      go (yes q) ih = rw (keep-yes (leb b) y l (le-leb b y q), h y (first-has y l) q) ih
      go (no q) ih = rw (keep-no (leb b) y l (lt-leb b y (omega arith))) ih

  -- what u gives comes first, where what is passed over before it gives nothing
  pub flat-split : (u n : ℕ) (l : List ℕ) → From n l → has u l ≡ true → b ≤ u → ((x : ℕ) → has x l ≡ true → b ≤ x → x < u → g x ≡ [])
      → flat_map g (keep (leb b) l) ≡ g u ++ flat_map g (keep (leb (u + 1)) l)
  unfolding flat_map From has
  flat-split u n [] f k h e = absurd (false≢true k)
  flat-split u n (y ∷ l) f k h e = go (dec_le y u) (dec_le u y) (dec_le b y) (λ m. flat-split u (suc y) l f.1 m h (λ x q. e x (later-has y x l q)))
    where
      go : Dec (y ≤ u) → Dec (u ≤ y) → Dec (b ≤ y) → (has u l ≡ true → flat_map g (keep (leb b) l) ≡ g u ++ flat_map g (keep (leb (u + 1)) l))
          → flat_map g (keep (leb b) (y ∷ l)) ≡ g u ++ flat_map g (keep (leb (u + 1)) (y ∷ l))
      go (no p) q r ih = absurd (true≢false (sym k ∙ below u y (y ∷ l) (omega arith, f.1) (omega arith)))
      go (yes p) (yes q) r ih =
          let s : y ≡ u = omega arith in
          rw (keep-yes (leb b) y l (le-leb b y (omega arith)), keep-no (leb (u + 1)) y l (lt-leb (u + 1) y (omega arith)), keep-high b (suc y) l f.1 (omega arith), keep-high (u + 1) (suc y) l f.1 (omega arith), s)
      go (yes p) (no q) (yes r) ih =
          let m : has u l ≡ true = rw (ne_eqb u y (λ s. omega arith)) at k in
          rw (keep-yes (leb b) y l (le-leb b y r), keep-no (leb (u + 1)) y l (lt-leb (u + 1) y (omega arith)), e y (first-has y l) r (omega arith)) (ih m)
      go (yes p) (no q) (no r) ih =
          let m : has u l ≡ true = rw (ne_eqb u y (λ s. omega arith)) at k in
          rw (keep-no (leb b) y l (lt-leb b y (omega arith)), keep-no (leb (u + 1)) y l (lt-leb (u + 1) y (omega arith))) (ih m)

-- ---- the words
module _ {nodes joined : List ℕ} {s : ℕ} {list words : List ℕ} (p : Paired nodes joined s list words) where
  -- a node without words is joined with none of the list
  none-of : (u : ℕ) → has u (labelled_in nodes s) ≡ true → lower ((u + 1) * 65536) words ≤ lower (u * 65536) words → keep (word_in joined u) list ≡ []
  unfolding words_of part_told
  none-of u h k =
      sym (p.each u h) ∙ ap (part_told joined list u)
      (sym (range-of (u * 65536) ((u + 1) * 65536) words p.ascends) ∙ slice-none (lower (u * 65536) words) (lower ((u + 1) * 65536) words) words k)

  pub from-nothing : lower (0 * 65536) words ≡ 0
  from-nothing = go (dec_le (lower (0 * 65536) words) 0)
    where
      go : Dec (lower (0 * 65536) words ≤ 0) → lower (0 * 65536) words ≡ 0
      go (yes q) = omega arith
      go (no q) = let k = before-lower (0 * 65536) words p.ascends 0 (omega arith) in absurd (omega arith)

  module _ (b i : ℕ) (e : i ≡ lower (b * 65536) words) where
    -- at the end no node from b on has words
    pub end-none : length words ≤ i → (x : ℕ) → has x (labelled_in nodes s) ≡ true → b ≤ x → keep (word_in joined x) list ≡ []
    end-none h x m k =
        let o = lower-order (b * 65536) (x * 65536) words p.ascends (omega arith) in
        let w = lower-within ((x + 1) * 65536) words in
        none-of x m (omega arith)

    module _ (u : ℕ) (h : i < length words) (v : u ≡ get_or words i 0 / 65536) where
      pub up : b ≤ u
      up = let a = after-lower (b * 65536) words p.ascends i (omega arith) h in omega arith

      begins : i ≡ lower (u * 65536) words
      begins = go (dec_le (lower (u * 65536) words) i)
        where
          go : Dec (lower (u * 65536) words ≤ i) → i ≡ lower (u * 65536) words
          go (yes q) = let o = lower-order (b * 65536) (u * 65536) words p.ascends (omega (arith, up)) in omega arith
          go (no q) = let k = before-lower (u * 65536) words p.ascends i (omega arith) in absurd (omega arith)

      pub tried : has u (labelled_in nodes s) ≡ true
      tried = rw v (p.from (get_or words i 0) (has-get words i h))

      pub passed : (x : ℕ) → has x (labelled_in nodes s) ≡ true → b ≤ x → x < u → keep (word_in joined x) list ≡ []
      passed x m k l =
          let o = lower-order (b * 65536) (x * 65536) words p.ascends (omega arith) in
          let w = lower-order ((x + 1) * 65536) (u * 65536) words p.ascends (omega arith) in
          let a = begins in
          none-of x m (omega arith)

      pub told-part : (r : ℕ) → r ≡ lower ((u + 1) * 65536) words → part_told joined list u (slice i r words) ≡ keep (word_in joined u) list
      unfolding words_of
      told-part r q =
          ap (part_told joined list u) (ap (λ n. slice n r words) begins ∙ ap (λ n. slice (lower (u * 65536) words) n words) q ∙ range-of (u * 65536) ((u + 1) * 65536) words p.ascends)
          ∙ p.each u tried

-- ---- in the words of the code, which has the words at the front of a run
pub front-part : (run : List ℕ) (n i r : ℕ) → i ≤ r → r ≤ n → part run i r ≡ slice i r (take n run)
front-part run n i r h k =
    let a : 0 + i ≡ i = omega arith in
    let c : 0 + r ≡ r = omega arith in
    let m : n - 0 ≡ n = omega arith in
    rw (a, c, m) at (part-slice run 0 n i r h (omega arith))
