-- Laws of arranged words: the neighbours of a node with one label stand together, ascending, and are those of the set of the words. Assumes nothing.
use native.Mathlib.Omega.{arith}
use native.Mathlib.Decide.{dec_le, ℕ_discrete}
use mathlib.Core.Path.{◌≡◌, refl, sym, ap, ap₂, ◌∙◌, fun_ext}
use mathlib.Core.Bool.{Bool, true, false, cond, not, ◌&&◌, ◌||◌, and-false}
use mathlib.Core.List.{List, [], ◌∷◌, ◌++◌, map}
use Prim.Native.Nat.{ℕ, suc, ◌+◌, ◌-◌, ◌*◌, ◌/◌, ◌%◌, ◌≤◌, ◌<◌}
use lib.Dec.{eqb, ltb}
use lib.ListN.{length, get_or, length-map}
use borrow.Author.Tests.{lt-ltb, le-ltb, eq-eqb, ne_eqb, eqb-true}
use Rattle.rules.specs.Lists.{range, all, any, has, keep, set_of}
use Rattle.laws.specs.Strict.{From, Strict, from-lower}
use Rattle.rules.specs.Store.{most_nodes, nodes_in, label_at}
use Rattle.laws.specs.Cases.{first-holds, second-holds}
use Rattle.laws.specs.Has.{has-get}
use Rattle.laws.specs.Sets.{same-members, has-set, set-strict}
use Rattle.laws.specs.Keep.{keep-yes, keep-no, has-keep, keep-from, keep-most}
use Rattle.laws.specs.Searching.{stands-has}
use Rattle.build_edges.specs.Packed.{word_in, has_label, labelled_in}
use Rattle.laws.specs.Lows.{lows, lows-none}
use Rattle.build_neighbours.specs.Side.{place_of, places, Arranged, side_in, side_of, Held}
use Rattle.build_neighbours.specs.Left.{labels_left}
use Rattle.build_neighbours.proofs.Until.{until_zero, until-none, until-here, until-next, until-labels}
use Rattle.build_neighbours.specs.Useful.{reaches}
use Rattle.laws.specs.Range.{length-range, has-range}
use Rattle.build_edges.proofs.Nearby.{labelled-strict}

-- ---- numbers moved up by a
module _ (a : ℕ) where
  abbrev moved : List ℕ → List ℕ
  moved l = map (λ u. a + u) l

  moved-from : (n : ℕ) (l : List ℕ) → From n l → From (a + n) (moved l)
  unfolding From
  moved-from n [] f = tt
  moved-from n (u ∷ l) f =
      let k = f.0 in
      let e : a + suc u ≡ suc (a + u) = omega arith in
      (omega arith, rw e at (moved-from (suc u) l f.1))

  moved-has : (z : ℕ) (l : List ℕ) → has (a + z) (moved l) ≡ has z l
  unfolding has
  moved-has z [] = refl
  moved-has z (u ∷ l) = ap₂ (λ s t. s || t) (same (ℕ_discrete z u)) (moved-has z l)
    where
      same : Dec (z ≡ u) → eqb (a + z) (a + u) ≡ eqb z u
      same (yes e) = eq-eqb (a + z) (a + u) (omega arith) ∙ sym (eq-eqb z u e)
      same (no f) = ne_eqb (a + z) (a + u) (λ e. f (omega arith)) ∙ sym (ne_eqb z u f)

-- ---- the nodes labelled l
labelled-has : (nodes : List ℕ) (l z : ℕ) → has z (labelled_in nodes l) ≡ (eqb (label_at nodes z) l && ltb z (nodes_in nodes))
unfolding labelled_in has_label
labelled-has nodes l z =
    let e : 0 + nodes_in nodes ≡ nodes_in nodes = omega arith in
    has-keep (has_label nodes l) z (range 0 (nodes_in nodes))
    ∙ ap (λ t. eqb (label_at nodes z) l && t) (has-range z 0 (nodes_in nodes) (omega arith) ∙ ap (ltb z) e)

-- ---- the words of v and its neighbours labelled l
module _ (nodes : List ℕ) (v l : ℕ) where
  abbrev pub mine : ℕ → Bool
  mine w = eqb (w / 65536) v && eqb (label_at nodes (w % 65536)) l

  mine-node : (w : ℕ) → mine w ≡ true → w / 65536 ≡ v
  mine-node w e = eqb-true (w / 65536) v (first-holds (eqb (w / 65536) v) (eqb (label_at nodes (w % 65536)) l) e)

  mine-label : (w : ℕ) → mine w ≡ true → label_at nodes (w % 65536) ≡ l
  mine-label w e = eqb-true (label_at nodes (w % 65536)) l (second-holds (eqb (w / 65536) v) (eqb (label_at nodes (w % 65536)) l) e)

  abbrev base : ℕ
  base = v * 4294967296 + l * 65536

  mine-place : (w : ℕ) → mine w ≡ true → place_of nodes w ≡ base + w % 65536
  unfolding place_of
  mine-place w e = rw (mine-node w e, mine-label w e)

  lows-from : (n : ℕ) (ws : List ℕ) → From n (places nodes ws) → From (n - base) (lows (keep mine ws))
  unfolding From
  lows-from n [] f = unfold keep in tt
  lows-from n (w ∷ ws) f = go (mine w) refl (lows-from (suc (place_of nodes w)) ws f.1)
    where
      go : (t : Bool) → mine w ≡ t → From (suc (place_of nodes w) - base) (lows (keep mine ws)) → From (n - base) (lows (keep mine (w ∷ ws)))
      go true e ih =
          let k = f.0 in
          let p = mine-place w e in
          let q : suc (place_of nodes w) - base ≡ suc (w % 65536) = omega arith in
          rw (keep-yes mine w ws e) (omega arith, rw q at ih)
      go false e ih =
          let k = f.0 in
          rw (keep-no mine w ws e) (from-lower (n - base) (suc (place_of nodes w) - base) (lows (keep mine ws)) (omega arith) ih)

  -- they are their low halves with v before them
  back : (ws : List ℕ) → keep mine ws ≡ moved (v * 65536) (lows (keep mine ws))
  back [] = unfold keep in refl
  back (w ∷ ws) = go (mine w) refl (back ws)
    where
      go : (t : Bool) → mine w ≡ t → keep mine ws ≡ moved (v * 65536) (lows (keep mine ws)) → keep mine (w ∷ ws) ≡ moved (v * 65536) (lows (keep mine (w ∷ ws)))
      go true e ih =
          let n = mine-node w e in
          let q : w ≡ v * 65536 + w % 65536 = omega arith in
          rw (keep-yes mine w ws e) (ap₂ (λ x xs. x ∷ xs) q ih)
      go false e ih = rw (keep-no mine w ws e) ih

  lows-has : (z : ℕ) (ws : List ℕ) → z < 65536 → has z (lows (keep mine ws)) ≡ (eqb (label_at nodes z) l && has (v * 65536 + z) ws)
  lows-has z ws h =
      let a : (v * 65536 + z) / 65536 ≡ v = omega arith in
      let b : (v * 65536 + z) % 65536 ≡ z = omega arith in
      sym (moved-has (v * 65536) z (lows (keep mine ws))) ∙ ap (has (v * 65536 + z)) (sym (back ws)) ∙ has-keep mine (v * 65536 + z) ws
      ∙ rw (a, b, eq-eqb v v refl)

  lows-strict : (ws : List ℕ) → Strict (places nodes ws) → Strict (lows (keep mine ws))
  lows-strict ws s = from-lower 0 (0 - base) (lows (keep mine ws)) (omega arith) (lows-from 0 ws s)

module _ (nodes joined : List ℕ) (v l : ℕ) (arranged : Arranged nodes joined) where
  pub side-strict : Strict (side_in nodes joined v l)
  unfolding side_in
  side-strict =
      rw (back nodes v l joined)
      (from-lower 0 (v * 65536 + 0) (moved (v * 65536) (lows (keep (mine nodes v l) joined))) (omega arith)
      (moved-from (v * 65536) 0 (lows (keep (mine nodes v l) joined)) (lows-strict nodes v l joined arranged.ascends)))

  -- a word is found in the set where it is among the words
  stands : (z : ℕ) → v < 65536 → z < 65536 → word_in (set_of joined) v z ≡ has (v * 65536 + z) joined
  unfolding word_in
  stands z h k = rw (lt-ltb v 65536 h, lt-ltb z 65536 k) (stands-has (v * 65536 + z) (set_of joined) (set-strict joined) ∙ has-set (v * 65536 + z) joined)

  stands-not : (z : ℕ) → v < 65536 → 65536 ≤ z → word_in (set_of joined) v z ≡ false
  unfolding word_in
  stands-not z h k = rw (lt-ltb v 65536 h, le-ltb z 65536 k)

  both : (z : ℕ) → z < 65536 → (eqb (label_at nodes z) l && has (v * 65536 + z) joined) ≡ (has (v * 65536 + z) joined && (eqb (label_at nodes z) l && ltb z (nodes_in nodes)))
  both z h = go (has (v * 65536 + z) joined) refl
    where
      go : (t : Bool) → has (v * 65536 + z) joined ≡ t → (eqb (label_at nodes z) l && t) ≡ (t && (eqb (label_at nodes z) l && ltb z (nodes_in nodes)))
      go true e =
          let b : (v * 65536 + z) % 65536 ≡ z = omega arith in
          let k : z < nodes_in nodes = rw b at (arranged.inside (v * 65536 + z) e) in
          rw (lt-ltb z (nodes_in nodes) k)
      go false e = and-false (eqb (label_at nodes z) l)

  pub side-lows : v < 65536 → nodes_in nodes ≤ most_nodes → lows (side_in nodes joined v l) ≡ side_of nodes (set_of joined) v l
  unfolding side_in
  side-lows h few =
      same-members 0 (lows (keep (mine nodes v l) joined)) (side_of nodes (set_of joined) v l) (lows-strict nodes v l joined arranged.ascends)
      (keep-from (word_in (set_of joined) v) 0 (labelled_in nodes l) (labelled-strict nodes l)) (λ z. members z (dec_le 65536 z))
    where
      members : (z : ℕ) → Dec (65536 ≤ z) → has z (lows (keep (mine nodes v l) joined)) ≡ has z (side_of nodes (set_of joined) v l)
      members z (yes k) = lows-none z (keep (mine nodes v l) joined) k ∙ sym (has-keep (word_in (set_of joined) v) z (labelled_in nodes l) ∙ ap (λ t. t && has z (labelled_in nodes l)) (stands-not z h k))
      members z (no k) =
          let q : z < 65536 = omega arith in
          lows-has nodes v l z joined q ∙ both z q
          ∙ sym (has-keep (word_in (set_of joined) v) z (labelled_in nodes l) ∙ ap₂ (λ s t. s && t) (stands z h q) (labelled-has nodes l z))

  pub side-words : v < 65536 → nodes_in nodes ≤ most_nodes → side_in nodes joined v l ≡ map (λ u. v * 65536 + u) (side_of nodes (set_of joined) v l)
  unfolding side_in
  side-words h few = back nodes v l joined ∙ ap (moved (v * 65536)) (side-lows h few)

-- ---- whether v has a neighbour of each label
any-kept : (p : ℕ → Bool) (l : List ℕ) → any p l ≡ not (eqb (length (keep p l)) 0)
unfolding any keep
any-kept p [] = refl
any-kept p (x ∷ l) = go (p x) (any-kept p l)
  where
    go : (t : Bool) → any p l ≡ not (eqb (length (keep p l)) 0) → (t || any p l) ≡ not (eqb (length (cond t (x ∷ []) [] ++ keep p l)) 0)
    go true ih = sym (ap not (ne_eqb (suc (length (keep p l))) 0 (λ e. omega arith)))
    go false ih = ih

-- a loop over the labels: those that are left decide the whole
module _ (nodes joined : List ℕ) (v : ℕ) where
  -- v has a neighbour labelled l
  abbrev meets : ℕ → Bool
  meets l = any (λ u. word_in (set_of joined) u v) (labelled_in nodes l)

  pub record Asking (whole : Bool) (left : List ℕ) : Type 0 where
    pub todo : whole ≡ all meets (until_zero left)

  pub ask-start : (a b c : ℕ) → Asking (reaches (word_in (set_of joined)) (labelled_in nodes) (labels_left a b c) v) (a ∷ b ∷ c ∷ [])
  unfolding reaches
  ask-start a b c = record { todo = ap (all meets) (sym (until-labels a b c)) }

module _ {nodes joined : List ℕ} {v : ℕ} {whole : Bool} where
  pub ask-stop : {l : ℕ} {left : List ℕ} → Asking nodes joined v whole (l ∷ left) → l ≡ 0 → true ≡ whole
  unfolding all
  ask-stop {l} {left} g e = sym (g.todo ∙ ap (all (meets nodes joined v)) (until-here l left e))

  pub ask-done : Asking nodes joined v whole [] → true ≡ whole
  unfolding all
  ask-done g = sym (g.todo ∙ ap (all (meets nodes joined v)) until-none)

module _ {nodes joined starts : List ℕ} {v : ℕ} (held : Held nodes joined starts) (h : v < 65535) where
  side-length : (l : ℕ) → length (side_in nodes joined v l) ≡ length (side_of nodes (set_of joined) v l)
  side-length l =
      sym (length-map (side_in nodes joined v l) (λ w. w % 65536))
      ∙ ap length (side-lows nodes joined v l held.arranged (omega arith) held.few)

  beside : (l : ℕ) → any (λ u. word_in (set_of joined) u v) (labelled_in nodes l) ≡ not (eqb (length (side_in nodes joined v l)) 0)
  beside l =
      ap (λ f. any f (labelled_in nodes l)) (fun_ext (λ u. held.both.both u v)) ∙ any-kept (word_in (set_of joined) v) (labelled_in nodes l)
      ∙ ap (λ t. not (eqb t 0)) (sym (side-length l))

  module _ {whole : Bool} {l : ℕ} {left : List ℕ} (g : Asking nodes joined v whole (l ∷ left)) (k : l ≡ 0 → ⊥) {s : List ℕ} (e : s ≡ side_in nodes joined v l) where
    ask : whole ≡ (not (eqb (length s) 0) && all (meets nodes joined v) (until_zero left))
    unfolding all
    ask =
        g.todo ∙ ap (all (meets nodes joined v)) (until-next l left k)
        ∙ ap (λ t. t && all (meets nodes joined v) (until_zero left)) (beside l ∙ ap (λ s. not (eqb (length s) 0)) (sym e))

    pub ask-none : length s ≡ 0 → false ≡ whole
    ask-none z = sym (ask ∙ rw (eq-eqb (length s) 0 z))

    pub ask-next : (length s ≡ 0 → ⊥) → Asking nodes joined v whole left
    ask-next z = record { todo = ask ∙ rw (ne_eqb (length s) 0 z) }

  -- ---- the neighbours labelled l: few, each a node
  pub few-words : (l : ℕ) {s : List ℕ} → s ≡ side_in nodes joined v l → length s ≤ 65535
  unfolding labelled_in
  few-words l {s} e =
      let few = held.few in
      let n : length s ≡ length (side_of nodes (set_of joined) v l) = ap length e ∙ side-length l in
      let a = keep-most (word_in (set_of joined) v) (labelled_in nodes l) in
      let b = keep-most (has_label nodes l) (range 0 (nodes_in nodes)) in
      let c = length-range 0 (nodes_in nodes) in
      omega arith

  pub low-words : (l : ℕ) {s : List ℕ} → s ≡ side_in nodes joined v l → (i : ℕ) → i < length s → get_or s i 0 % 65536 < 65535
  unfolding side_in
  low-words l {s} e i k =
      let w = get_or s i 0 in
      let few = held.few in
      let m : has w (keep (mine nodes v l) joined) ≡ true = rw (← e) (has-get s i k) in
      let j = held.arranged.inside w (second-holds (mine nodes v l w) (has w joined) (sym (has-keep (mine nodes v l) w joined) ∙ m)) in
      omega arith

  pub kept-lows : (l : ℕ) {s x : List ℕ} (p : ℕ → Bool) → s ≡ side_in nodes joined v l → x ≡ keep p (lows s) → x ≡ keep p (side_of nodes (set_of joined) v l)
  kept-lows l p e q = q ∙ ap (keep p) (ap lows e ∙ side-lows nodes joined v l held.arranged (omega arith) held.few)
