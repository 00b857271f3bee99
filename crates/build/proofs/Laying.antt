-- What arranging the edges of a right store needs and gives, and what too many entries say. Assumes nothing.
use native.Mathlib.Omega.{arith}
use native.Mathlib.Decide.{ℕ_discrete, dec_le}
use mathlib.Core.Path.{◌≡◌, refl, sym, ap, ◌∙◌}
use mathlib.Core.Bool.{Bool, true, false, ◌||◌, false≢true, or-true}
use mathlib.Core.List.{List, ◌++◌, map}
use Prim.Native.Nat.{ℕ, zero, suc, ◌+◌, ◌%◌, ◌≤◌, ◌<◌}
use lib.Dec.{ltb}
use lib.ListN.{length, take, replicate, length-take, length-replicate}
use borrow.Author.Tests.{ne_eqb, lt-ltb}
use Rattle.rules.specs.Lists.{range, has, set_of}
use Rattle.laws.specs.Strict.{Strict}
use Rattle.rules.specs.Store.{most_entries, most_groups, most_nodes, node_part, edge_part, nodes_in, edges_in}
use Rattle.rules.specs.Index.{too_large, exceeds, too_many, store_index, entry_total}
use Rattle.laws.specs.Refusals.{graph_number}
use Rattle.laws.specs.Sets.{has-set, set-strict}
use Rattle.laws.specs.Has.{has-append}
use Rattle.laws.specs.Parts.{nodes-in}
use Rattle.build_edges.specs.Packed.{forward_at, backward_at, forward_words}
use Rattle.build_edges.specs.Starts.{Climbs}
use Rattle.build_edges.specs.Sound.{joined_set}
use Rattle.build_neighbours.specs.Side.{Arranged}
use Rattle.build_keys.specs.Pass.{Right, AtHand, Laid}
use Rattle.build_totals.specs.Total.{Entries}
use Rattle.build_keys.proofs.Index.{both-ends, right-sound}
use Rattle.build.proofs.Numbers.{gives-four, gives-eleven}

-- ---- low halves
words-low : (f : ℕ → ℕ) (b k n : ℕ) → ((i : ℕ) → i < k + n → f i % 65536 < b) → (w : ℕ) → has w (map f (range k n)) ≡ true → w % 65536 < b
unfolding has range
words-low f b k zero h w e = absurd (false≢true e)
words-low f b k (suc n) h w e = go (ℕ_discrete w (f k)) (words-low f b (k + 1) n (λ i j. h i (omega arith)) w)
  where
    go : Dec (w ≡ f k) → (has w (map f (range (k + 1) n)) ≡ true → w % 65536 < b) → w % 65536 < b
    go (yes q) ih = rw q (h k (omega arith))
    go (no q) ih = ih (rw (ne_eqb w (f k) q) at e)

either : (a b : Bool) (P : Type 0) → (a || b) ≡ true → (a ≡ true → P) → (b ≡ true → P) → P
either true b P e f g = f refl
either false b P e f g = g e

module _ {s : List ℕ} (right : Right s) where
  forward-low : (i : ℕ) → i < edges_in (edge_part s) → forward_at (edge_part s) i % 65536 < nodes_in (node_part s)
  unfolding forward_at
  forward-low i h =
      let e = (both-ends s right.header right.records i h).1 in
      let n = nodes-in s right.header in
      let few = (right-sound right).nodes in
      omega arith

  backward-low : (i : ℕ) → i < edges_in (edge_part s) → backward_at (edge_part s) i % 65536 < nodes_in (node_part s)
  unfolding backward_at
  backward-low i h =
      let e = (both-ends s right.header right.records i h).0 in
      let n = nodes-in s right.header in
      let few = (right-sound right).nodes in
      omega arith

  joined-low : (w : ℕ) → has w (joined_set (edge_part s)) ≡ true → w % 65536 < nodes_in (node_part s)
  unfolding joined_set forward_words
  joined-low w e =
      let n = edges_in (edge_part s) in
      let a = forward_words (edge_part s) in
      let b = map (backward_at (edge_part s)) (range 0 n) in
      either (has w a) (has w b) (w % 65536 < nodes_in (node_part s)) (sym (has-set w (a ++ b) ∙ has-append w a b) ∙ e)
      (words-low (forward_at (edge_part s)) (nodes_in (node_part s)) 0 n (λ i h. forward-low i (omega arith)) w)
      (words-low (backward_at (edge_part s)) (nodes_in (node_part s)) 0 n (λ i h. backward-low i (omega arith)) w)

-- ---- arranging
joined-strict : (edges : List ℕ) → Strict (joined_set edges)
unfolding joined_set
joined-strict edges = set-strict (forward_words edges ++ map (backward_at edges) (range 0 (edges_in edges)))

module _ {s joined nodes : List ℕ} (h : AtHand s joined) (en : nodes ≡ node_part s) where
  pub lay-needs : ((nodes_in nodes ≤ most_nodes) × (length joined ≤ 524288)) × (Strict joined × ((w : ℕ) → has w joined ≡ true → w % 65536 < nodes_in nodes))
  lay-needs = (
    (rw en (right-sound h.right).nodes, h.short),
    (rw h.words (joined-strict (edge_part s)), λ w e. rw en (joined-low h.right w (ap (has w) (sym h.words) ∙ e))),
  )

  pub laid : {joined' : List ℕ} → length joined' ≡ length joined → (Arranged nodes joined' × Climbs joined') × (set_of joined' ≡ joined) → Laid s joined'
  laid {joined'} e d =
      let short = h.short in
      record {
        right = h.right;
        arranged = rw en at d.0.0;
        climbs = d.0.1;
        words = d.1 ∙ h.words;
        short = omega arith;
      }

-- the front of a room is no longer than the room
pub front-short : (r n a : ℕ) (l : List ℕ) → length l ≡ length (replicate n a) → length (take r l) ≤ n
front-short r n a l e = let k : length l ≡ n = e ∙ length-replicate n a in simp length-take (omega arith)

-- ---- too many entries
pub total-over : {r n : ℕ} → Entries r n → most_entries < r → most_entries < n
total-over {r} {n} e h = go (dec_le n most_entries)
  where
    go : Dec (n ≤ most_entries) → most_entries < n
    go (yes k) = let q = e.exact k in absurd (omega arith)
    go (no k) = omega arith

module _ {s : List ℕ} (right : Right s) (over : most_entries < entry_total (store_index s)) where
  many : true ≡ too_many s
  unfolding too_many too_large
  many = sym (rw (lt-ltb most_entries (entry_total (store_index s)) over) (or-true (ltb most_groups (length (store_index s)))))

  module _ (above : Bool) (ea : above ≡ exceeds s) where
    pub many-four : above ≡ true → 4 ≡ graph_number s
    many-four h = gives-four s right above ea h

    pub many-eleven : above ≡ false → 11 ≡ graph_number s
    many-eleven h = gives-eleven s right above ea h true many refl

  -- the number is one of both
  module _ (n : ℕ) (en : n ≡ graph_number s) where
    pub many-some : n ≡ 0 → ⊥
    many-some z = go (exceeds s) refl
      where
        go : (t : Bool) → exceeds s ≡ t → ⊥
        go true e = let g = many-four (exceeds s) refl e in omega arith
        go false e = let g = many-eleven (exceeds s) refl e in omega arith

    pub many-other : (n ≡ 4 → ⊥) → n ≡ 11
    many-other f = go (exceeds s) refl
      where
        go : (t : Bool) → exceeds s ≡ t → n ≡ 11
        go true e = absurd (f (en ∙ sym (many-four (exceeds s) refl e)))
        go false e = en ∙ sym (many-eleven (exceeds s) refl e)
