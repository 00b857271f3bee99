-- Laws of the search for the words of a node and a label: places are searched, and what stands between two of them is a side. Assumes nothing.
use native.Mathlib.Omega.{arith}
use native.Mathlib.Decide.{dec_le, ℕ_discrete}
use mathlib.Core.Path.{◌≡◌, refl, sym, ap, ap₂, ◌∙◌, fun_ext}
use mathlib.Core.Bool.{Bool, true, false, cond, ◌&&◌, and-false}
use mathlib.Core.List.{List, [], ◌∷◌, ◌++◌, map}
use Prim.Native.Nat.{ℕ, zero, suc, ◌+◌, ◌-◌, ◌*◌, ◌/◌, ◌%◌, ◌≤◌, ◌<◌}
use lib.Dec.{ltb}
use lib.ListN.{length, take, drop, get_or, length-map}
use lib.Seq.{slice, take-length}
use borrow.Author.Tests.{le-leb, lt-leb, lt-ltb, le-ltb, eq-eqb, ne_eqb}
use Rattle.rules.specs.Words.{u16_at, part}
use Rattle.rules.specs.Lists.{has, keep, halving}
use Rattle.laws.specs.Strict.{From, Strict, from-lower}
use Rattle.rules.specs.Store.{label_at}
use Rattle.laws.specs.Cases.{second-holds}
use Rattle.laws.specs.PartMembers.{part-slice}
use Rattle.laws.specs.Has.{has-get}
use Rattle.laws.specs.Keep.{keep-yes, keep-no, has-keep, keep-keep}
use Rattle.laws.specs.Searching.{is_below, lower, between, range-of, lower-order, lower-within}
use Rattle.build_edges.specs.Near.{words_of}
use Rattle.build_neighbours.specs.Side.{place_of, places, Arranged, side_in}
use Rattle.build_neighbours.proofs.Beside.{mine}

-- ---- a search among the places
pub node-room : {nodes words : List ℕ} (i : ℕ) → Arranged nodes words → i < length words → get_or words i 0 % 65536 * 8 + 8 ≤ length nodes
node-room {nodes} {words} i r h = let k = r.inside (get_or words i 0) (has-get words i h) in omega arith

place-word : (nodes words : List ℕ) (i : ℕ) → i < length words → get_or (places nodes words) i 0 ≡ place_of nodes (get_or words i 0)
place-word nodes [] i h = absurd (omega arith)
place-word nodes (w ∷ words) zero h = refl
place-word nodes (w ∷ words) (suc i) h = place-word nodes words i (omega arith)

pub below-place : {nodes words : List ℕ} (x i p : ℕ) → Arranged nodes words → i < length words → p ≡ place_of nodes (get_or words i 0) → ltb p x ≡ is_below (places nodes words) x i
below-place {nodes} {words} x i p r h e = ap (λ y. ltb y x) (e ∙ sym (place-word nodes words i h))

pub whole-search : (nodes words : List ℕ) (x : ℕ) → lower x (places nodes words) ≡ halving (is_below (places nodes words) x) (length words) 0 (length words)
unfolding lower
whole-search nodes words x = rw (length-map words (place_of nodes))

-- ---- the words between two places
module _ {A B : Type 0} (f : A → B) where
  map-drop : (n : ℕ) (l : List A) → map f (drop n l) ≡ drop n (map f l)
  map-drop zero l = refl
  map-drop (suc n) [] = refl
  map-drop (suc n) (x ∷ l) = map-drop n l

  map-take : (n : ℕ) (l : List A) → map f (take n l) ≡ take n (map f l)
  map-take zero l = refl
  map-take (suc n) [] = refl
  map-take (suc n) (x ∷ l) = ap (λ t. f x ∷ t) (map-take n l)

  map-kept : (p : B → Bool) (l : List A) → map f (keep (λ x. p (f x)) l) ≡ keep p (map f l)
  unfolding keep
  map-kept p [] = refl
  map-kept p (x ∷ l) = go (p (f x)) (map-kept p l)
    where
      go : (t : Bool) → map f (keep (λ x. p (f x)) l) ≡ keep p (map f l) → map f (cond t (x ∷ []) [] ++ keep (λ x. p (f x)) l) ≡ cond t (f x ∷ []) [] ++ keep p (map f l)
      go true ih = ap (λ t. f x ∷ t) ih
      go false ih = ih

-- labels are below 65,536, so a word is known by its place
abbrev Short : List ℕ → Type 0
Short nodes = (v : ℕ) → label_at nodes v < 65536

module _ (nodes : List ℕ) (short : Short nodes) where
  unplaced : (w : ℕ) → place_of nodes w / 4294967296 * 65536 + place_of nodes w % 65536 ≡ w
  unfolding place_of
  unplaced w = let k = short (w % 65536) in omega arith

  by-places : (a b : List ℕ) → places nodes a ≡ places nodes b → a ≡ b
  by-places a b e = sym (again a) ∙ ap (map (λ p. p / 4294967296 * 65536 + p % 65536)) e ∙ again b
    where
      again : (l : List ℕ) → map (λ p. p / 4294967296 * 65536 + p % 65536) (places nodes l) ≡ l
      again [] = refl
      again (w ∷ l) = ap₂ (λ x xs. x ∷ xs) (unplaced w) (again l)

  -- where a word of v and a neighbour labelled l has its place
  here : (v l w : ℕ) → l < 65536 → between (v * 4294967296 + l * 65536) (v * 4294967296 + l * 65536 + 65536) (place_of nodes w) ≡ mine nodes v l w
  unfolding place_of
  here v l w h = go (ℕ_discrete (w / 65536) v) (ℕ_discrete (label_at nodes (w % 65536)) l)
    where
      p : ℕ
      p = w / 65536 * 4294967296 + label_at nodes (w % 65536) * 65536 + w % 65536

      apart : (a b : ℕ) → (a ≤ p → p < b → ⊥) → between a b p ≡ false
      apart a b f = at (dec_le a p) (dec_le b p)
        where
          at : Dec (a ≤ p) → Dec (b ≤ p) → between a b p ≡ false
          at (yes q) (yes r) = rw (le-leb a p q, le-ltb p b r)
          at (yes q) (no r) = absurd (f q (omega arith))
          at (no q) r = rw (lt-leb a p (omega arith))

      go : Dec (w / 65536 ≡ v) → Dec (label_at nodes (w % 65536) ≡ l) → between (v * 4294967296 + l * 65536) (v * 4294967296 + l * 65536 + 65536) p ≡ mine nodes v l w
      go (yes a) (yes b) =
          rw (eq-eqb (w / 65536) v a, eq-eqb (label_at nodes (w % 65536)) l b, le-leb (v * 4294967296 + l * 65536) p (omega arith), lt-ltb p (v * 4294967296 + l * 65536 + 65536) (omega arith))
      go (yes a) (no b) = let k = short (w % 65536) in rw (eq-eqb (w / 65536) v a, ne_eqb (label_at nodes (w % 65536)) l b) (apart (v * 4294967296 + l * 65536) (v * 4294967296 + l * 65536 + 65536) (λ q r. b (omega arith)))
      go (no a) b = let k = short (w % 65536) in rw (ne_eqb (w / 65536) v a) (apart (v * 4294967296 + l * 65536) (v * 4294967296 + l * 65536 + 65536) (λ q r. a (omega arith)))

  -- so the words between two searches are those of v and its neighbours labelled l
  between-found : (words : List ℕ) (v l a e : ℕ) → Strict (places nodes words) → l < 65536
      → a ≡ lower (v * 4294967296 + l * 65536) (places nodes words) → e ≡ lower (v * 4294967296 + l * 65536 + 65536) (places nodes words)
      → slice a e words ≡ keep (mine nodes v l) words
  between-found words v l a e s h p q =
      let x : ℕ = v * 4294967296 + l * 65536 in
      by-places (slice a e words) (keep (mine nodes v l) words)
      (map-drop (place_of nodes) a (take e words) ∙ ap (drop a) (map-take (place_of nodes) e words)
      ∙ rw (p, q) (range-of x (x + 65536) (places nodes words) s)
      ∙ sym (map-kept (place_of nodes) (between x (x + 65536)) words)
      ∙ ap (λ t. map (place_of nodes) (keep t words)) (fun_ext (λ w. here v l w h)))

labels-short : (nodes : List ℕ) → ((i : ℕ) → get_or nodes i 0 < 256) → Short nodes
unfolding u16_at
labels-short nodes bytes v = let a = bytes (v * 8) in let b = bytes (v * 8 + 1) in omega arith

part-as : (words : List ℕ) (a e : ℕ) → a ≤ e → e ≤ length words → part words a e ≡ slice a e words
part-as words a e h k =
    let n : length words - 0 ≡ length words = omega arith in
    let whole : part words 0 (length words) ≡ words = rw n (take-length words) in
    let za : 0 + a ≡ a = omega arith in
    let ze : 0 + e ≡ e = omega arith in
    rw (za, ze) at (part-slice words 0 (length words) a e h (omega arith)) ∙ ap (slice a e) whole

module _ (nodes words : List ℕ) (v l a e : ℕ) (arranged : Arranged nodes words)
    (p : a ≡ lower (v * 4294967296 + l * 65536) (places nodes words)) (q : e ≡ lower (v * 4294967296 + l * 65536 + 65536) (places nodes words)) where
  pub ends-order : a ≤ e
  ends-order = rw (p, q) (lower-order (v * 4294967296 + l * 65536) (v * 4294967296 + l * 65536 + 65536) (places nodes words) arranged.ascends (omega arith))

  pub side-found : ((i : ℕ) → get_or nodes i 0 < 256) → l < 65536 → part words a e ≡ side_in nodes words v l
  unfolding side_in
  side-found bytes h =
      let top : e ≤ length words = rw (q, ← length-map words (place_of nodes)) (lower-within (v * 4294967296 + l * 65536 + 65536) (places nodes words)) in
      part-as words a e ends-order top ∙ between-found nodes (labels-short nodes bytes) words v l a e arranged.ascends h p q

-- ---- the words of one node
module _ (q : ℕ → Bool) (nodes : List ℕ) where
  kept-ascend : (n : ℕ) (ws : List ℕ) → From n (places nodes ws) → From n (places nodes (keep q ws))
  unfolding From
  kept-ascend n [] f = unfold keep in tt
  kept-ascend n (w ∷ ws) f = go (q w) refl (kept-ascend (suc (place_of nodes w)) ws f.1)
    where
      go : (t : Bool) → q w ≡ t → From (suc (place_of nodes w)) (places nodes (keep q ws)) → From n (places nodes (keep q (w ∷ ws)))
      go true e ih = rw (keep-yes q w ws e) (f.0, ih)
      go false e ih = let k = f.0 in rw (keep-no q w ws e) (from-lower n (suc (place_of nodes w)) (places nodes (keep q ws)) (omega arith) ih)

  kept-arranged : (ws : List ℕ) → Arranged nodes ws → Arranged nodes (keep q ws)
  kept-arranged ws r = record {
    ascends = kept-ascend 0 ws r.ascends;
    inside = λ w h. r.inside w (second-holds (q w) (has w ws) (sym (has-keep q w ws) ∙ h));
  }

pub part-arranged : (nodes joined run : List ℕ) (v : ℕ) → run ≡ words_of joined v → Arranged nodes joined → Arranged nodes run
unfolding words_of
part-arranged nodes joined run v e r = rw e (kept-arranged (between (v * 65536) ((v + 1) * 65536)) nodes joined r)

pub part-side : (nodes joined run : List ℕ) (v l : ℕ) → run ≡ words_of joined v → side_in nodes run v l ≡ side_in nodes joined v l
unfolding words_of side_in
part-side nodes joined run v l e =
    ap (keep (mine nodes v l)) e ∙ keep-keep (mine nodes v l) (between (v * 65536) ((v + 1) * 65536)) joined ∙ ap (λ t. keep t joined) (fun_ext (λ w. go w (ℕ_discrete (w / 65536) v)))
  where
    go : (w : ℕ) → Dec (w / 65536 ≡ v) → (between (v * 65536) ((v + 1) * 65536) w && mine nodes v l w) ≡ mine nodes v l w
    go w (yes a) = rw (le-leb (v * 65536) w (omega arith), lt-ltb w ((v + 1) * 65536) (omega arith))
    go w (no a) = rw (ne_eqb (w / 65536) v a) (and-false (between (v * 65536) ((v + 1) * 65536) w))
