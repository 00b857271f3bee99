-- The graph that the packed words tell is the graph of the rules. Assumes nothing.
use native.Mathlib.Omega.{arith}
use native.Mathlib.Decide.{dec_le}
use mathlib.Core.Path.{◌≡◌, refl, sym, ◌∙◌, fun_ext}
use mathlib.Core.Bool.{Bool, true, false, cond, not, ◌&&◌, ◌||◌, false≢true, or_comm, and-false, and_comm}
use mathlib.Core.List.{List, [], ◌∷◌, ◌++◌, map}
use Prim.Native.Nat.{ℕ, ◌+◌, ◌*◌, ◌≤◌, ◌<◌}
use lib.Dec.{eqb, ltb, leb}
use borrow.Author.Tests.{le-ltb, lt-ltb, ne_eqb}
use Rattle.rules.specs.Lists.{range, has, set_of, keep}
use Rattle.laws.specs.Strict.{Strict}
use Rattle.rules.specs.Store.{edges_in, from_at, to_at, edge_part, labels_of, label_after, constraint_alone}
use Rattle.rules.specs.Graph.{graph_of, edge_in, neighbours, labelled}
use Rattle.rules.specs.declared.Constraint.{Constraint}
use Rattle.laws.specs.Sets.{has-set, set-strict}
use Rattle.laws.specs.Searching.{stands_in, stands-has}
use Rattle.laws.specs.Cases.{first-holds, second-holds}
use Rattle.laws.specs.Each.{any-alike, none-any}
use Rattle.laws.specs.Has.{has-append}
use Rattle.laws.specs.Range.{has-words}
use Rattle.laws.specs.Packing.{same-pair}
use Rattle.build_edges.specs.Packed.{forward_at, backward_at, EdgesBelow, forward_words, word_in, has_label, labelled_in}
use Rattle.build_edges.specs.Near.{Joined}
use Rattle.build_edges.specs.Sound.{joined_set, Sound}
use Rattle.build_neighbours.specs.Left.{labels_left}

-- ---- packed words
module _ (edges : List ℕ) (below : EdgesBelow edges) where
  forward-has : (u v : ℕ) → v < 65536 → has (u * 65536 + v) (forward_words edges) ≡ edge_in edges u v
  unfolding forward_at forward_words edge_in
  forward-has u v h =
      has-words (forward_at edges) (u * 65536 + v) 0 (edges_in edges)
      ∙ any-alike (λ i. eqb (u * 65536 + v) (forward_at edges i)) (λ i. eqb (from_at edges i) u && eqb (to_at edges i) v) 0 (edges_in edges)
      (λ i j. same-pair (from_at edges i) (to_at edges i) u v (below.to i (omega arith)) h)

  backward-has : (u v : ℕ) → v < 65536 → has (u * 65536 + v) (map (backward_at edges) (range 0 (edges_in edges))) ≡ edge_in edges v u
  unfolding backward_at edge_in
  backward-has u v h =
      has-words (backward_at edges) (u * 65536 + v) 0 (edges_in edges)
      ∙ any-alike (λ i. eqb (u * 65536 + v) (backward_at edges i)) (λ i. eqb (from_at edges i) v && eqb (to_at edges i) u) 0 (edges_in edges)
      (λ i j. same-pair (to_at edges i) (from_at edges i) u v (below.from i (omega arith)) h ∙ and_comm (eqb (to_at edges i) u) (eqb (from_at edges i) v))

  high-from : (u v : ℕ) → 65536 ≤ u → edge_in edges u v ≡ false
  unfolding edge_in
  high-from u v h =
      none-any (λ i. eqb (from_at edges i) u && eqb (to_at edges i) v) 0 (edges_in edges)
      (λ i j. let b = below.from i (omega arith) in rw (ne_eqb (from_at edges i) u (λ e. omega arith)))

  high-to : (u v : ℕ) → 65536 ≤ v → edge_in edges u v ≡ false
  unfolding edge_in
  high-to u v h =
      none-any (λ i. eqb (from_at edges i) u && eqb (to_at edges i) v) 0 (edges_in edges)
      (λ i j. let b = below.to i (omega arith) in rw (ne_eqb (to_at edges i) v (λ e. omega arith)) (and-false (eqb (from_at edges i) u)))

  pub forward-in : Strict (forward_words edges) → (u v : ℕ) → word_in (forward_words edges) u v ≡ edge_in edges u v
  unfolding word_in
  forward-in up u v = go (dec_le 65536 u) (dec_le 65536 v)
    where
      go : Dec (65536 ≤ u) → Dec (65536 ≤ v) → (ltb u 65536 && ltb v 65536 && stands_in (u * 65536 + v) (forward_words edges)) ≡ edge_in edges u v
      go (yes h) k = rw (le-ltb u 65536 h) (sym (high-from u v h))
      go (no h) (yes k) = rw (lt-ltb u 65536 (omega arith), le-ltb v 65536 k) (sym (high-to u v k))
      go (no h) (no k) =
          rw (lt-ltb u 65536 (omega arith), lt-ltb v 65536 (omega arith)) (stands-has (u * 65536 + v) (forward_words edges) up ∙ forward-has u v (omega arith))

  pub joined-in : (u v : ℕ) → word_in (joined_set edges) u v ≡ (edge_in edges v u || edge_in edges u v)
  unfolding word_in joined_set
  joined-in u v = go (dec_le 65536 u) (dec_le 65536 v)
    where
      a : List ℕ
      a = forward_words edges

      b : List ℕ
      b = map (backward_at edges) (range 0 (edges_in edges))

      go : Dec (65536 ≤ u) → Dec (65536 ≤ v) → (ltb u 65536 && ltb v 65536 && stands_in (u * 65536 + v) (set_of (a ++ b))) ≡ (edge_in edges v u || edge_in edges u v)
      go (yes h) k = rw (le-ltb u 65536 h, high-from u v h, high-to v u h)
      go (no h) (yes k) = rw (lt-ltb u 65536 (omega arith), le-ltb v 65536 k, high-from v u k, high-to u v k)
      go (no h) (no k) =
          rw (lt-ltb u 65536 (omega arith), lt-ltb v 65536 (omega arith))
          (stands-has (u * 65536 + v) (set_of (a ++ b)) (set-strict (a ++ b)) ∙ has-set (u * 65536 + v) (a ++ b) ∙ has-append (u * 65536 + v) a b
          ∙ rw (forward-has u v (omega arith), backward-has u v (omega arith)) (or_comm (edge_in edges u v) (edge_in edges v u)))

  pub joined-both : Joined (joined_set edges)
  unfolding joined_set
  joined-both = record {
    strict = set-strict (forward_words edges ++ map (backward_at edges) (range 0 (edges_in edges)));
    both = λ u v. joined-in u v ∙ or_comm (edge_in edges v u) (edge_in edges u v) ∙ sym (joined-in v u);
  }

  -- so the words tell the graph
  pub graph-edges : Strict (forward_words edges) → word_in (forward_words edges) ≡ edge_in edges
  graph-edges up = fun_ext (λ u. fun_ext (λ v. forward-in up u v))

  pub graph-joined : (nodes : List ℕ) → word_in (joined_set edges) ≡ (λ u v. neighbours (graph_of nodes edges) v u)
  unfolding neighbours graph_of
  graph-joined nodes = fun_ext (λ u. fun_ext (λ v. joined-in u v))

pub graph-labelled : (nodes edges : List ℕ) → labelled_in nodes ≡ labelled (graph_of nodes edges)
unfolding labelled_in labelled graph_of has_label
graph-labelled nodes edges = refl

-- the labels of S, where zeros stand after them
pub labels-of : (d : Constraint) → constraint_alone d ≡ true → labels_left d.first d.second d.third ≡ labels_of d
unfolding labels_left labels_of keep constraint_alone label_after
labels-of d h =
    go (eqb d.first 0) (eqb d.second 0) (eqb d.third 0) (ltb d.first d.second) (ltb d.second d.third)
    (first-holds (label_after d.first d.second) (label_after d.second d.third) both) (second-holds (label_after d.first d.second) (label_after d.second d.third) both)
  where
    ab : Bool
    ab = label_after d.first d.second && label_after d.second d.third

    both : ab ≡ true
    both = first-holds ab (not (eqb d.label 0)) (first-holds (ab && not (eqb d.label 0)) (leb 1 d.most) (first-holds (ab && not (eqb d.label 0) && leb 1 d.most) (leb d.most 65535) h))

    go : (x y z p q : Bool) → (y || (not x && p)) ≡ true → (z || (not y && q)) ≡ true
        → cond x [] (d.first ∷ cond y [] (d.second ∷ cond z [] (d.third ∷ [])))
        ≡ cond (not x) (d.first ∷ []) [] ++ (cond (not y) (d.second ∷ []) [] ++ (cond (not z) (d.third ∷ []) [] ++ []))
    go true true true p q a b = refl
    go true true false p q a b = absurd (false≢true b)
    go true false z p q a b = absurd (false≢true a)
    go false true true p q a b = refl
    go false true false p q a b = absurd (false≢true b)
    go false false true p q a b = refl
    go false false false p q a b = refl

-- the words of a sound store
pub own-both : {joined : List ℕ} (s : List ℕ) → Sound s → joined ≡ joined_set (edge_part s) → Joined joined
own-both s h e = rw e (joined-both (edge_part s) h.below)
