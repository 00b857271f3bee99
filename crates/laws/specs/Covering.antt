-- Which pattern nodes and edges are covered: the node rows go on as far as they can, and what they cover depends neither on the order of the steps nor on the figures. Assumes nothing.
use Rattle.std.specs.Prelude.{◌≡◌, Bool, false, ◌&&◌, ◌||◌, get_or, set}
use Rattle.std.proofs.Math.Path.{refl, ap}
use Rattle.std.proofs.Common.{sym, ◌∙◌, length-set, get_or-set_same, get_or-set_other, eqb-true, eq-eqb, ne_eqb}
use Rattle.std.proofs.Math.Bool.{true, cond, not}
use Rattle.std.proofs.lemmas.Bool.{false≢true, eqb-false, not-true}
use mathlib.Core.List.{List, [], ◌∷◌, map, flat_map}
use Rattle.std.proofs.Math.Option.{Option, some, none}
use Prim.Native.Nat.{ℕ, zero, suc, ◌*◌, ◌≤◌, ◌<◌}
use Rattle.std.proofs.Math.Decide.{dec_le, ℕ_discrete}
use Rattle.std.proofs.Math.Nat.{mul-pos}
use native.Mathlib.Omega.{arith}
use Rattle.std.proofs.Math.Dec.{eqb}
use Rattle.std.proofs.Math.ListN.{length, get_or-eq_default}
use Rattle.std.proofs.lemmas.List.{get_or-replicate}
use Rattle.std.proofs.Math.Seq.{set_out}
use Rattle.rules.specs.Lists.{all, any, all_from, keep, has, range, product, choices}
use Rattle.rules.specs.Store.{constraints_in, constraint_at, labels_of, constraints_right}
use Rattle.rules.specs.Pattern.{size_of, edges_of, pattern_label, joined}
use Rattle.rules.specs.Plan.{row_of, no_figures, figure_of, covered, covered_with, ways_by, figure_by, smallest, node_ways, all_ways, figures_with, figures_after, node_rows_from, node_rows, figures_of, ends_of, other_end, end_ways, edge_ways, edge_covered, all_covered}
use Rattle.rules.specs.declared.Constraint.{Constraint}
use Rattle.rules.specs.declared.Row.{Row}
use Rattle.laws.specs.Cases.{first-holds, second-holds, and-yes, both-ways, not-zero}
use Rattle.laws.specs.All.{all-map, all-flat, all-first, all-keep, all-mapped, all-true, all-weaken, all-same}
use Rattle.laws.specs.Keep.{keep-less, keep-most, has-keep, keep-same}
use Rattle.laws.specs.Any.{any-member, any-same, any-weaken}
use Rattle.laws.specs.Choices.{choices-all}
use Rattle.laws.specs.Filled.{filled, filled-all, filled-choices, filled-flat, filled-keep, filled-length, filled-map}
use Rattle.laws.specs.Range.{length-range, range-below, range-has}
use Rattle.laws.specs.Map.{map-same}
use Rattle.laws.specs.Constraints.{most-right}
use Rattle.laws.specs.Smallest.{smallest-all, smallest-none, smallest-some}
use Rattle.laws.specs.Each.{each-same}

-- ---- one step
-- the figures after at most n steps, each of which gives the node of the smallest way the value that val says
unfoldable pub cover_from : (Row → ℕ) → List ℕ → List ℕ → ℕ → List ℕ → List ℕ
cover_from val constraints b zero figures = figures
cover_from val constraints b (suc n) figures =
    elim (smallest (all_ways constraints b figures)) [ none ↦ figures | some r ↦ cover_from val constraints b n (set figures r.number (val r)) ]

module _ (constraints b : List ℕ) (n : ℕ) (figures : List ℕ) where
  -- where there is a way, the smallest one is the next row
  pub rows-next : (r : Row) → smallest (all_ways constraints b figures) ≡ some r
      → node_rows_from constraints b (suc n) figures ≡ r ∷ node_rows_from constraints b n (figures_with figures r)
  unfolding node_rows_from
  rows-next r e = rw (e, node_rows_from)

  -- where there is none, there are no more rows
  pub rows-stop : smallest (all_ways constraints b figures) ≡ none → node_rows_from constraints b (suc n) figures ≡ []
  unfolding node_rows_from
  rows-stop e = rw (e, node_rows_from)

  module _ (val : Row → ℕ) where
    -- where there is a way, the node of the smallest one gets its value
    pub cover-next : (r : Row) → smallest (all_ways constraints b figures) ≡ some r
        → cover_from val constraints b (suc n) figures ≡ cover_from val constraints b n (set figures r.number (val r))
    unfolding cover_from
    cover-next r e = rw (e, cover_from)

    -- where there is none, the figures stay
    pub cover-stop : smallest (all_ways constraints b figures) ≡ none → cover_from val constraints b (suc n) figures ≡ figures
    unfolding cover_from
    cover-stop e = rw (e, cover_from)

-- in no steps there are no rows
pub rows-zero : (constraints b figures : List ℕ) → node_rows_from constraints b 0 figures ≡ []
unfolding node_rows_from
rows-zero constraints b figures = refl

-- and the figures stay
pub cover-zero : (val : Row → ℕ) (constraints b figures : List ℕ) → cover_from val constraints b 0 figures ≡ figures
unfolding cover_from
cover-zero val constraints b figures = refl

-- where there is no way, the figures stay however many steps are left
pub cover-still : (val : Row → ℕ) (constraints b : List ℕ) (n : ℕ) (figures : List ℕ) → smallest (all_ways constraints b figures) ≡ none → cover_from val constraints b n figures ≡ figures
cover-still val constraints b zero figures e = cover-zero val constraints b figures
cover-still val constraints b (suc n) figures e = cover-stop constraints b n figures val e

-- the figures that the node rows give are those of steps that write each row's own figure
pub rows-cover : (constraints b : List ℕ) (n : ℕ) (figures : List ℕ)
    → figures_after figures (node_rows_from constraints b n figures) ≡ cover_from (λ r. r.figure) constraints b n figures
unfolding node_rows_from cover_from figures_after
rows-cover constraints b zero figures = refl
rows-cover constraints b (suc n) figures = go (smallest (all_ways constraints b figures)) (rows-cover constraints b n)
  where
    go : (o : Option Row)
        → ((next : List ℕ) → figures_after next (node_rows_from constraints b n next) ≡ cover_from (λ r. r.figure) constraints b n next)
        → figures_after figures (elim o [ none ↦ [] | some r ↦ r ∷ node_rows_from constraints b n (figures_with figures r) ])
        ≡ elim o [ none ↦ figures | some r ↦ cover_from (λ r. r.figure) constraints b n (set figures r.number r.figure) ]
    go none ih = refl
    go (some r) ih = ih (figures_with figures r)

-- so too from no figures on
pub figures-cover : (constraints b : List ℕ) → figures_of constraints b ≡ cover_from (λ r. r.figure) constraints b (size_of b) no_figures
unfolding figures_of node_rows
figures-cover constraints b = rows-cover constraints b (size_of b) no_figures

-- ---- a way is for an uncovered node, and its figure is not 0
-- the pattern nodes that the figures leave uncovered
unfoldable pub uncovered : List ℕ → List ℕ → List ℕ
uncovered b figures = keep (λ u. not (covered figures u)) (range 0 (size_of b))

node-way : (constraints b figures : List ℕ) (u : ℕ) → all (λ r. eqb r.number u) (node_ways constraints b figures u) ≡ true
unfolding node_ways row_of
node-way constraints b figures u =
    all-flat _ _ (range 0 (constraints_in constraints))
    (λ c h. all-map _ _ (ways_by b figures u (constraint_at constraints c)) (λ chosen. eq-eqb u u refl))

-- every way is for an uncovered node
pub ways-uncovered : (constraints b figures : List ℕ) → all (λ r. has r.number (uncovered b figures)) (all_ways constraints b figures) ≡ true
unfolding all_ways uncovered
ways-uncovered constraints b figures =
    all-flat _ (node_ways constraints b figures) (keep (λ u. not (covered figures u)) (range 0 (size_of b)))
    (λ u h. all-weaken _ _ (node_ways constraints b figures u) (λ r e. rw (eqb-true r.number u e) h) (node-way constraints b figures u))

-- the nodes chosen are covered
ways-chosen : (b figures : List ℕ) (u : ℕ) (c : Constraint) → all (all (covered figures)) (ways_by b figures u c) ≡ true
unfolding ways_by covered_with all
ways-chosen b figures u c = go (eqb (pattern_label b u) c.label)
  where
    lists : all (all (covered figures)) (map (covered_with b figures u) (labels_of c)) ≡ true
    lists =
        all-mapped (all (covered figures)) (covered_with b figures u) (labels_of c)
        ∙ every (labels_of c)
      where
        every : (ls : List ℕ) → all (λ l. all (covered figures) (covered_with b figures u l)) ls ≡ true
        every ls =
            all-weaken (λ l. true) (λ l. all (covered figures) (covered_with b figures u l)) ls
            (λ l e. all-keep _ (covered figures) (range 0 (size_of b)) (λ w h. first-holds (covered figures w) (joined b u w) (first-holds (covered figures w && joined b u w) (eqb (pattern_label b w) l) h)))
            (all-true ls)

    go : (t : Bool) → all (all (covered figures)) (cond t (choices (map (covered_with b figures u) (labels_of c))) []) ≡ true
    go true = choices-all (covered figures) (map (covered_with b figures u) (labels_of c)) lists
    go false = refl

covered-not : (figures : List ℕ) (u : ℕ) → covered figures u ≡ true → get_or figures u 0 ≡ 0 → ⊥
unfolding covered
covered-not figures u h = eqb-false (get_or figures u 0) 0 (not-true (eqb (get_or figures u 0) 0) h)

product-positive : (figures chosen : List ℕ) → all (covered figures) chosen ≡ true → 0 < product (map (figure_of figures) chosen)
unfolding product
product-positive figures [] h = omega arith
product-positive figures (w ∷ chosen) h =
    let k = all-first (covered figures) w chosen h in
    mul-pos (not-zero (get_or figures w 0) (covered-not figures w k.0)) (product-positive figures chosen k.1)

module _ (constraints b figures : List ℕ) (right : constraints_right constraints ≡ true) where
  way-positive : (u : ℕ) → all (λ r. not (eqb r.figure 0)) (node_ways constraints b figures u) ≡ true
  unfolding node_ways row_of figure_by
  way-positive u =
      all-flat _ _ (range 0 (constraints_in constraints))
      (λ c h. all-mapped (λ r. not (eqb r.figure 0)) _ (ways_by b figures u (constraint_at constraints c))
      ∙ all-weaken (all (covered figures)) _ (ways_by b figures u (constraint_at constraints c)) (λ chosen e. figure c h chosen e) (ways-chosen b figures u (constraint_at constraints c)))
    where
      figure : (c : ℕ) → has c (range 0 (constraints_in constraints)) ≡ true → (chosen : List ℕ) → all (covered figures) chosen ≡ true
          → not (eqb ((constraint_at constraints c).most * product (map (figure_of figures) chosen)) 0) ≡ true
      figure c h chosen e =
          let l = range-below c 0 (constraints_in constraints) h in
          let m = most-right constraints right c (omega arith) in
          let k = mul-pos m (product-positive figures chosen e) in
          ap not (ne_eqb ((constraint_at constraints c).most * product (map (figure_of figures) chosen)) 0 (λ z. omega arith))

  -- the figure of every way is not 0
  pub ways-positive : all (λ r. not (eqb r.figure 0)) (all_ways constraints b figures) ≡ true
  unfolding all_ways
  ways-positive = all-flat _ (node_ways constraints b figures) (keep (λ u. not (covered figures u)) (range 0 (size_of b))) (λ u h. way-positive u)

-- the node of a row is one of the pattern, and uncovered
pub record Next (b figures : List ℕ) (r : Row) : Type 0 where
  pub node : r.number < size_of b
  pub fresh : covered figures r.number ≡ false

-- the smallest way is such a row
pub next-says : (constraints b figures : List ℕ) (r : Row) → smallest (all_ways constraints b figures) ≡ some r → Next b figures r
unfolding uncovered
next-says constraints b figures r e =
    let h = smallest-all _ (all_ways constraints b figures) r (ways-uncovered constraints b figures) e in
    let k : (not (covered figures r.number) && has r.number (range 0 (size_of b))) ≡ true = sym (has-keep _ r.number (range 0 (size_of b))) ∙ h in
    let l = range-below r.number 0 (size_of b) (second-holds (not (covered figures r.number)) (has r.number (range 0 (size_of b))) k) in
    record {
      node = omega arith;
      fresh = not-true (covered figures r.number) (first-holds (not (covered figures r.number)) (has r.number (range 0 (size_of b))) k);
    }

-- and its figure is not 0
pub next-positive : (constraints b figures : List ℕ) → constraints_right constraints ≡ true → (r : Row) → smallest (all_ways constraints b figures) ≡ some r → r.figure ≡ 0 → ⊥
next-positive constraints b figures right r e =
    eqb-false r.figure 0 (not-true (eqb r.figure 0) (smallest-all (λ q. not (eqb q.figure 0)) (all_ways constraints b figures) r (ways-positive constraints b figures right) e))

-- ---- a step covers its node, so that fewer are left
-- a node is covered after a step exactly if it was, or if it is the node of the step
pub covered-set : (figures : List ℕ) (n v : ℕ) → n < length figures → (v ≡ 0 → ⊥) → (u : ℕ) → covered (set figures n v) u ≡ (eqb u n || covered figures u)
unfolding covered
covered-set figures n v l h u = go (ℕ_discrete u n)
  where
    go : Dec (u ≡ n) → not (eqb (get_or (set figures n v) u 0) 0) ≡ (eqb u n || not (eqb (get_or figures u 0) 0))
    go (yes e) = rw (e, get_or-set_same figures n v 0 l, eq-eqb n n refl, ne_eqb v 0 h)
    go (no e) = rw (get_or-set_other figures n u v 0 e, ne_eqb u n e)

-- whatever the value, only that node may change
pub covered-other : (figures : List ℕ) (n v u : ℕ) → (u ≡ n → ⊥) → covered (set figures n v) u ≡ covered figures u
unfolding covered
covered-other figures n v u e = rw (get_or-set_other figures n u v 0 e)

-- a step leaves fewer nodes uncovered
pub uncovered-less : (b figures : List ℕ) (n v : ℕ) → n < length figures → (v ≡ 0 → ⊥) → has n (uncovered b figures) ≡ true
    → length (uncovered b (set figures n v)) < length (uncovered b figures)
unfolding uncovered
uncovered-less b figures n v l z h =
    keep-less (λ u. not (covered figures u)) (λ u. not (covered (set figures n v) u)) still n (range 0 (size_of b)) h
    (ap not now)
  where
    now : covered (set figures n v) n ≡ true
    now = covered-set figures n v l z n ∙ rw (eq-eqb n n refl)

    left : (a c : Bool) → not (a || c) ≡ true → not c ≡ true
    left true c e = absurd (false≢true e)
    left false c e = e

    still : (u : ℕ) → not (covered (set figures n v) u) ≡ true → not (covered figures u) ≡ true
    still u e = left (eqb u n) (covered figures u) (rw (covered-set figures n v l z u) at e)

-- ---- enough steps
-- val is not 0 where the figure is not
abbrev pub Lasting : (Row → ℕ) → Type 0
Lasting val = (r : Row) → (r.figure ≡ 0 → ⊥) → val r ≡ 0 → ⊥

ways-none : (constraints b figures : List ℕ) → length (uncovered b figures) ≤ 0 → all_ways constraints b figures ≡ []
unfolding uncovered all_ways flat_map
ways-none constraints b figures h = go (keep (λ u. not (covered figures u)) (range 0 (size_of b))) h
  where
    go : (us : List ℕ) → length us ≤ 0 → flat_map (node_ways constraints b figures) us ≡ []
    go [] h = refl
    go (u ∷ us) h = absurd (omega arith)

module _ (constraints b : List ℕ) (right : constraints_right constraints ≡ true) (small : size_of b ≤ 8) (val : Row → ℕ) (lasting : Lasting val) where
  -- with a step for each uncovered node, no way is left at the end
  pub cover-end : (n : ℕ) (figures : List ℕ) → length figures ≡ 8 → length (uncovered b figures) ≤ n → all_ways constraints b (cover_from val constraints b n figures) ≡ []
  unfolding cover_from
  cover-end zero figures l h = ways-none constraints b figures h
  cover-end (suc n) figures l h = go (smallest (all_ways constraints b figures)) refl (cover-end n)
    where
      go : (o : Option Row) → smallest (all_ways constraints b figures) ≡ o
          → ((next : List ℕ) → length next ≡ 8 → length (uncovered b next) ≤ n → all_ways constraints b (cover_from val constraints b n next) ≡ [])
          → all_ways constraints b (cover_from val constraints b (suc n) figures) ≡ []
      go none e ih = ap (all_ways constraints b) (cover-stop constraints b n figures val e) ∙ smallest-none (all_ways constraints b figures) e
      go (some r) e ih =
          let next = next-says constraints b figures r e in
          let inside : r.number < length figures = omega arith in
          let k = uncovered-less b figures r.number (val r) inside (lasting r (next-positive constraints b figures right r e))
          (smallest-all _ (all_ways constraints b figures) r (ways-uncovered constraints b figures) e) in
          ap (all_ways constraints b) (cover-next constraints b n figures val r e)
          ∙ ih (set figures r.number (val r)) (length-set figures r.number (val r) ∙ l) (omega arith)

  -- so with a step for each node
  pub cover-closed : all_ways constraints b (cover_from val constraints b (size_of b) no_figures) ≡ []
  unfolding uncovered
  cover-closed =
      let k = keep-most (λ u. not (covered no_figures u)) (range 0 (size_of b)) in
      let e = length-range 0 (size_of b) in
      cover-end (size_of b) no_figures refl (omega arith)

-- ---- when there is a way
-- u may be fetched by a constraint: u is labelled l, and each label of S has a covered neighbour
unfoldable pub fetchable : List ℕ → List ℕ → ℕ → Constraint → Bool
fetchable b figures u c =
    eqb (pattern_label b u) c.label
    && all (λ l. any (λ w. covered figures w && joined b u w && eqb (pattern_label b w) l) (range 0 (size_of b))) (labels_of c)

-- exactly then there is a way
pub fetchable-ways : (b figures : List ℕ) (u : ℕ) (c : Constraint) → filled (ways_by b figures u c) ≡ fetchable b figures u c
unfolding ways_by fetchable covered_with
fetchable-ways b figures u c =
    when (eqb (pattern_label b u) c.label) (choices (map (covered_with b figures u) (labels_of c)))
    ∙ ap (λ t. eqb (pattern_label b u) c.label && t)
    (filled-choices (map (covered_with b figures u) (labels_of c))
    ∙ all-mapped filled (covered_with b figures u) (labels_of c)
    ∙ all-same _ _ (labels_of c) (λ l. filled-keep (λ w. covered figures w && joined b u w && eqb (pattern_label b w) l) (range 0 (size_of b))))
  where
    when : (t : Bool) (cs : List (List ℕ)) → filled (cond t cs []) ≡ (t && filled cs)
    when true cs = refl
    when false cs = unfold filled in refl

-- some constraint fetches u
unfoldable pub reached : List ℕ → List ℕ → List ℕ → ℕ → Bool
reached constraints b figures u = any (λ c. fetchable b figures u (constraint_at constraints c)) (range 0 (constraints_in constraints))

-- exactly then there is a way for u
pub reached-ways : (constraints b figures : List ℕ) (u : ℕ) → filled (node_ways constraints b figures u) ≡ reached constraints b figures u
unfolding node_ways reached
reached-ways constraints b figures u =
    filled-flat _ (range 0 (constraints_in constraints))
    ∙ any-same _ _ (range 0 (constraints_in constraints))
    (λ c h. filled-map _ (ways_by b figures u (constraint_at constraints c)) ∙ fetchable-ways b figures u (constraint_at constraints c))

module _ (b F G : List ℕ) (more : (w : ℕ) → w < size_of b → covered F w ≡ true → covered G w ≡ true) where
  fetchable-more : (u : ℕ) (c : Constraint) → fetchable b F u c ≡ true → fetchable b G u c ≡ true
  unfolding fetchable
  fetchable-more u c h =
      let k = first-holds (eqb (pattern_label b u) c.label) _ h in
      and-yes (eqb (pattern_label b u) c.label) _ k
      (all-weaken _ _ (labels_of c) (λ l. any-weaken _ _ (range 0 (size_of b)) (λ w i. one l w i)) (second-holds (eqb (pattern_label b u) c.label) _ h))
    where
      one : (l w : ℕ) → has w (range 0 (size_of b)) ≡ true → (covered F w && joined b u w && eqb (pattern_label b w) l) ≡ true
          → (covered G w && joined b u w && eqb (pattern_label b w) l) ≡ true
      one l w i h =
          let below = range-below w 0 (size_of b) i in
          let front = first-holds (covered F w && joined b u w) (eqb (pattern_label b w) l) h in
          and-yes (covered G w && joined b u w) (eqb (pattern_label b w) l)
          (and-yes (covered G w) (joined b u w) (more w (omega arith) (first-holds (covered F w) (joined b u w) front)) (second-holds (covered F w) (joined b u w) front))
          (second-holds (covered F w && joined b u w) (eqb (pattern_label b w) l) h)

  -- the more nodes are covered, the more are reached
  pub reached-more : (constraints : List ℕ) (u : ℕ) → reached constraints b F u ≡ true → reached constraints b G u ≡ true
  unfolding reached
  reached-more constraints u h = any-weaken _ _ (range 0 (constraints_in constraints)) (λ c i. fetchable-more u (constraint_at constraints c)) h

-- every way is for a node that is reached
pub ways-reached : (constraints b figures : List ℕ) → all (λ r. reached constraints b figures r.number) (all_ways constraints b figures) ≡ true
unfolding all_ways
ways-reached constraints b figures =
    all-flat _ (node_ways constraints b figures) (keep (λ u. not (covered figures u)) (range 0 (size_of b)))
    (λ u h. filled-all _ (node_ways constraints b figures u)
    (λ k. all-weaken (λ r. eqb r.number u) _ (node_ways constraints b figures u)
    (λ r e. rw (eqb-true r.number u e) (sym (reached-ways constraints b figures u) ∙ k)) (node-way constraints b figures u)))

-- where no way is left, a node that is reached is covered
pub closed-reached : (constraints b figures : List ℕ) → all_ways constraints b figures ≡ [] → (u : ℕ) → u < size_of b → reached constraints b figures u ≡ true → covered figures u ≡ true
unfolding all_ways filled
closed-reached constraints b figures closed u l h = go (covered figures u) refl
  where
    go : (t : Bool) → covered figures u ≡ t → t ≡ true
    go true e = refl
    go false e =
        let member : has u (keep (λ w. not (covered figures w)) (range 0 (size_of b))) ≡ true =
        has-keep (λ w. not (covered figures w)) u (range 0 (size_of b)) ∙ rw (e, range-has u 0 (size_of b) (omega arith) (omega arith)) in
        let some-way : filled (flat_map (node_ways constraints b figures) (keep (λ w. not (covered figures w)) (range 0 (size_of b)))) ≡ true =
        filled-flat (node_ways constraints b figures) (keep (λ w. not (covered figures w)) (range 0 (size_of b)))
        ∙ any-member _ u _ member (reached-ways constraints b figures u ∙ h) in
        sym (ap filled closed) ∙ some-way

-- ---- the least cover
none-figure : (u : ℕ) → get_or no_figures u 0 ≡ 0
none-figure u = go (dec_le 8 u)
  where
    go : Dec (8 ≤ u) → get_or no_figures u 0 ≡ 0
    go (yes h) = get_or-eq_default no_figures 0 h
    go (no h) = get_or-replicate 8 u 0 0 (omega arith)

-- at the start no node is covered
pub none-covered : (u : ℕ) → covered no_figures u ≡ false
unfolding covered
none-covered u = ap (λ n. not (eqb n 0)) (none-figure u)

module _ (val : Row → ℕ) (constraints b X : List ℕ) (closed : all_ways constraints b X ≡ []) where
  -- where no way leads out of what X covers, steps that begin inside it stay inside it
  pub cover-within : (n : ℕ) (figures : List ℕ) → ((u : ℕ) → u < size_of b → covered figures u ≡ true → covered X u ≡ true)
      → (u : ℕ) → u < size_of b → covered (cover_from val constraints b n figures) u ≡ true → covered X u ≡ true
  unfolding cover_from
  cover-within zero figures within = within
  cover-within (suc n) figures within = go (smallest (all_ways constraints b figures)) refl (cover-within n)
    where
      go : (o : Option Row) → smallest (all_ways constraints b figures) ≡ o
          → ((next : List ℕ) → ((u : ℕ) → u < size_of b → covered next u ≡ true → covered X u ≡ true)
          → (u : ℕ) → u < size_of b → covered (cover_from val constraints b n next) u ≡ true → covered X u ≡ true)
          → (u : ℕ) → u < size_of b → covered (cover_from val constraints b (suc n) figures) u ≡ true → covered X u ≡ true
      go none e ih u l h = within u l (rw (cover-stop constraints b n figures val e) at h)
      go (some r) e ih u l h = ih (set figures r.number (val r)) step u l (rw (cover-next constraints b n figures val r e) at h)
        where
          node : covered X r.number ≡ true
          node =
              closed-reached constraints b X closed r.number (next-says constraints b figures r e).node
              (reached-more b figures X within constraints r.number (smallest-all _ (all_ways constraints b figures) r (ways-reached constraints b figures) e))

          step : (w : ℕ) → w < size_of b → covered (set figures r.number (val r)) w ≡ true → covered X w ≡ true
          step w l h = either (ℕ_discrete w r.number)
            where
              either : Dec (w ≡ r.number) → covered X w ≡ true
              either (yes q) = rw q node
              either (no q) = within w l (rw (covered-other figures r.number (val r) w q) at h)

  -- the steps cover no more than any figures that no way leads out of
  pub cover-least : (n u : ℕ) → u < size_of b → covered (cover_from val constraints b n no_figures) u ≡ true → covered X u ≡ true
  cover-least n = cover-within n no_figures (λ u l h. absurd (false≢true (sym (none-covered u) ∙ h)))

module _ (constraints b : List ℕ) (right : constraints_right constraints ≡ true) (small : size_of b ≤ 8) where
  -- so what is covered does not depend on the values, nor on the order that comes of them
  pub cover-same : (v1 v2 : Row → ℕ) → Lasting v1 → Lasting v2 → (u : ℕ) → u < size_of b
      → covered (cover_from v1 constraints b (size_of b) no_figures) u ≡ covered (cover_from v2 constraints b (size_of b) no_figures) u
  cover-same v1 v2 k1 k2 u l =
      both-ways (covered (cover_from v1 constraints b (size_of b) no_figures) u) (covered (cover_from v2 constraints b (size_of b) no_figures) u)
      (cover-least v1 constraints b (cover_from v2 constraints b (size_of b) no_figures) (cover-closed constraints b right small v2 k2) (size_of b) u l)
      (cover-least v2 constraints b (cover_from v1 constraints b (size_of b) no_figures) (cover-closed constraints b right small v1 k1) (size_of b) u l)

  -- the node rows cover the same nodes as steps that write 1 each
  pub figures-same : (u : ℕ) → u < size_of b → covered (figures_of constraints b) u ≡ covered (cover_from (λ r. 1) constraints b (size_of b) no_figures) u
  figures-same u l =
      ap (λ f. covered f u) (figures-cover constraints b)
      ∙ cover-same (λ r. r.figure) (λ r. 1) (λ r h. h) (λ r h e. omega arith) u l

-- ---- edges
edge-filled : (constraints b figures : List ℕ) (j : ℕ) → edge_covered constraints b figures j
    ≡ any (λ c. any (λ f. filled (keep (has (other_end b j f)) (ways_by b figures f (constraint_at constraints c)))) (ends_of b j)) (range 0 (constraints_in constraints))
unfolding edge_covered edge_ways end_ways
edge-filled constraints b figures j =
    filled-length (edge_ways constraints b figures j)
    ∙ filled-flat (λ c. flat_map (end_ways constraints b figures j c) (ends_of b j)) (range 0 (constraints_in constraints))
    ∙ any-same _ _ (range 0 (constraints_in constraints))
    (λ c h. filled-flat (end_ways constraints b figures j c) (ends_of b j)
    ∙ any-same _ _ (ends_of b j) (λ f k. filled-map _ (keep (has (other_end b j f)) (ways_by b figures f (constraint_at constraints c)))))

module _ (b F G : List ℕ) (same : (u : ℕ) → u < size_of b → covered F u ≡ covered G u) where
  -- the nodes that may be chosen depend only on which are covered
  pub ways-same : (u : ℕ) (c : Constraint) → ways_by b F u c ≡ ways_by b G u c
  unfolding ways_by covered_with
  ways-same u c =
      ap (λ lists. cond (eqb (pattern_label b u) c.label) (choices lists) [])
      (map-same (covered_with b F u) (covered_with b G u) (labels_of c)
      (λ l. keep-same _ _ (range 0 (size_of b))
      (λ w i. let k = range-below w 0 (size_of b) i in ap (λ t. t && joined b u w && eqb (pattern_label b w) l) (same w (omega arith)))))

  -- so does whether an edge is covered
  pub edge-same : (constraints : List ℕ) (j : ℕ) → edge_covered constraints b F j ≡ edge_covered constraints b G j
  edge-same constraints j =
      edge-filled constraints b F j
      ∙ any-same _ _ (range 0 (constraints_in constraints))
      (λ c h. any-same _ _ (ends_of b j) (λ f k. ap (λ ws. filled (keep (has (other_end b j f)) ws)) (ways-same f (constraint_at constraints c))))
      ∙ sym (edge-filled constraints b G j)

module _ (constraints b figures : List ℕ) (j : ℕ) where
  -- an edge is covered where one of its ways is the smallest
  pub edge-some : (r : Row) → smallest (edge_ways constraints b figures j) ≡ some r → edge_covered constraints b figures j ≡ true
  unfolding edge_covered
  edge-some r e = ap not (ne_eqb (length (edge_ways constraints b figures j)) 0 (smallest-some (edge_ways constraints b figures j) r e))

  -- and not where it has none
  pub edge-none : smallest (edge_ways constraints b figures j) ≡ none → edge_covered constraints b figures j ≡ false
  unfolding edge_covered
  edge-none e = ap (λ ws. not (eqb (length ws) 0)) (smallest-none (edge_ways constraints b figures j) e)

-- ---- everything covered
-- every node and edge is covered exactly if steps that write 1 each cover them
pub all-covered : (constraints b : List ℕ) → constraints_right constraints ≡ true → size_of b ≤ 8
    → all_covered constraints b
    ≡ (all_from (covered (cover_from (λ r. 1) constraints b (size_of b) no_figures)) 0 (size_of b)
    && all_from (edge_covered constraints b (cover_from (λ r. 1) constraints b (size_of b) no_figures)) 0 (edges_of b))
unfolding all_covered
all-covered constraints b right small =
    ap (λ t. t && all_from (edge_covered constraints b (figures_of constraints b)) 0 (edges_of b))
    (each-same _ _ 0 (size_of b) (λ u k l. figures-same constraints b right small u (omega arith)))
    ∙ ap (λ t. all_from (covered (cover_from (λ r. 1) constraints b (size_of b) no_figures)) 0 (size_of b) && t)
    (each-same _ _ 0 (edges_of b)
    (λ j k l. edge-same b (figures_of constraints b) (cover_from (λ r. 1) constraints b (size_of b) no_figures) (figures-same constraints b right small) constraints j))

-- ---- the figures that the steps leave
set-most : (figures : List ℕ) (n : ℕ) → ((u : ℕ) → get_or figures u 0 ≤ 1) → (u : ℕ) → get_or (set figures n 1) u 0 ≤ 1
set-most figures n most u = go (ℕ_discrete u n) (dec_le (length figures) n)
  where
    go : Dec (u ≡ n) → Dec (length figures ≤ n) → get_or (set figures n 1) u 0 ≤ 1
    go d (yes l) = rw (set_out figures n 1 l) (most u)
    go (yes e) (no l) = let k : n < length figures = omega arith in rw (e, get_or-set_same figures n 1 0 k) (omega arith)
    go (no e) (no l) = rw (get_or-set_other figures n u 1 0 e) (most u)

-- steps that write 1 each leave no figure above 1
pub cover-most : (constraints b : List ℕ) (n : ℕ) (figures : List ℕ) → ((u : ℕ) → get_or figures u 0 ≤ 1) → (u : ℕ) → get_or (cover_from (λ r. 1) constraints b n figures) u 0 ≤ 1
unfolding cover_from
cover-most constraints b zero figures most = most
cover-most constraints b (suc n) figures most = go (smallest (all_ways constraints b figures)) (cover-most constraints b n)
  where
    go : (o : Option Row) → ((next : List ℕ) → ((u : ℕ) → get_or next u 0 ≤ 1) → (u : ℕ) → get_or (cover_from (λ r. 1) constraints b n next) u 0 ≤ 1)
        → (u : ℕ) → get_or (elim o [ none ↦ figures | some r ↦ cover_from (λ r. 1) constraints b n (set figures r.number 1) ]) u 0 ≤ 1
    go none ih = most
    go (some r) ih = ih (set figures r.number 1) (set-most figures r.number most)

-- so too from no figures on
pub ones-most : (constraints b : List ℕ) (n u : ℕ) → get_or (cover_from (λ r. 1) constraints b n no_figures) u 0 ≤ 1
ones-most constraints b n = cover-most constraints b n no_figures (λ u. omega (arith, none-figure u))
