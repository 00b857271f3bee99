-- A plan with a row for every node and every edge covers them all. Assumes nothing.
use mathlib.Core.Path.{◌≡◌, refl, ◌∙◌}
use mathlib.Core.Bool.{Bool, true, false, cond, not, ◌&&◌}
use mathlib.Core.List.{List, [], ◌∷◌, ◌++◌, flat_map}
use mathlib.Core.Option.{Option, some, none}
use Prim.Native.Nat.{ℕ, zero, suc, ◌+◌, ◌*◌, ◌≤◌, ◌<◌}
use native.Mathlib.Omega.{arith}
use lib.Dec.{leb}
use lib.ListN.{length, length-append, length-set}
use Rattle.rules.specs.Lists.{range, all_from, keep}
use Rattle.rules.specs.Store.{constraints_right}
use Rattle.rules.specs.Pattern.{size_of, edges_of}
use Rattle.rules.specs.Plan.{most_read, no_figures, covered, figures_with, figures_after, smallest, all_ways, node_rows_from, node_rows, edge_ways, edge_covered, figures_of, listed, edge_rows, rows_of, all_covered, bound, plan_words}
use Rattle.rules.specs.declared.Row.{Row}
use Rattle.laws.specs.Keep.{keep-most}
use Rattle.laws.specs.Covering.{uncovered, uncovered-less, next-says, next-positive, ways-uncovered, edge-some}
use Rattle.laws.specs.Smallest.{smallest-all}
use Rattle.laws.specs.Range.{length-range}
use Rattle.std.specs.Prelude.{Ok, Err}
use Rattle.rules.specs.declared.Refusal.TheVariants.{Bound}
use Rattle.plan.specs.Plans.{answered_plan, bounded_plan, covered_plan}
use Rattle.plan.specs.declared.PlanRows.{PlanRows}
use Rattle.laws.specs.Rows.{node-few, edge-few, words-length}

module _ (constraints b : List ℕ) (right : constraints_right constraints ≡ true) (small : size_of b ≤ 8) where
  -- each node row leaves at least one node less uncovered
  rows-uncover : (n : ℕ) (figures : List ℕ) → length figures ≡ 8
      → length (uncovered b (figures_after figures (node_rows_from constraints b n figures))) + length (node_rows_from constraints b n figures) ≤ length (uncovered b figures)
  unfolding node_rows_from figures_after
  rows-uncover zero figures l = omega arith
  rows-uncover (suc n) figures l = go (smallest (all_ways constraints b figures)) refl (rows-uncover n)
    where
      rows_by : Option Row → List Row
      rows_by o = elim o [ none ↦ [] | some r ↦ r ∷ node_rows_from constraints b n (figures_with figures r) ]

      go : (o : Option Row) → smallest (all_ways constraints b figures) ≡ o
          → ((next : List ℕ) → length next ≡ 8
          → length (uncovered b (figures_after next (node_rows_from constraints b n next))) + length (node_rows_from constraints b n next) ≤ length (uncovered b next))
          → length (uncovered b (figures_after figures (rows_by o))) + length (rows_by o) ≤ length (uncovered b figures)
      go none e ih = omega arith
      go (some r) e ih =
          let next = next-says constraints b figures r e in
          let inside : r.number < length figures = omega (arith, next.node) in
          let k = uncovered-less b figures r.number r.figure inside (next-positive constraints b figures right r e)
          (smallest-all _ (all_ways constraints b figures) r (ways-uncovered constraints b figures) e) in
          let h = ih (figures_with figures r) (length-set figures r.number r.figure ∙ l) in
          omega arith

  -- no node is left, so each is covered
  keep-none : (p : ℕ → Bool) (k n : ℕ) → length (keep (λ u. not (p u)) (range k n)) ≡ 0 → all_from p k n ≡ true
  unfolding keep range all_from
  keep-none p k zero h = refl
  keep-none p k (suc n) h = go (p k) (keep-none p (k + 1) n) h
    where
      go : (t : Bool) → (length (keep (λ u. not (p u)) (range (k + 1) n)) ≡ 0 → all_from p (k + 1) n ≡ true)
          → length (cond (not t) (k ∷ []) [] ++ keep (λ u. not (p u)) (range (k + 1) n)) ≡ 0 → (t && all_from p (k + 1) n) ≡ true
      go true ih h = ih h
      go false ih h = absurd (omega arith)

  nodes-all : length (node_rows constraints b) ≡ size_of b → all_from (covered (figures_of constraints b)) 0 (size_of b) ≡ true
  unfolding node_rows figures_of uncovered
  nodes-all h =
      let u = rows-uncover (size_of b) no_figures refl in
      let k = keep-most (λ u. not (covered no_figures u)) (range 0 (size_of b)) in
      let e = length-range 0 (size_of b) in
      keep-none (covered (figures_after no_figures (node_rows_from constraints b (size_of b) no_figures))) 0 (size_of b) (omega arith)

  -- as many rows as edges, so each has one
  edges-each : (figures : List ℕ) (k n : ℕ) → length (flat_map (λ j. listed (smallest (edge_ways constraints b figures j))) (range k n)) ≡ n
      → all_from (edge_covered constraints b figures) k n ≡ true
  unfolding flat_map range all_from listed
  edges-each figures k zero h = refl
  edges-each figures k (suc n) h = go (smallest (edge_ways constraints b figures k)) refl (edges-each figures (k + 1) n) (edge-few (λ j. smallest (edge_ways constraints b figures j)) (k + 1) n) h
    where
      rest : List Row
      rest = flat_map (λ j. listed (smallest (edge_ways constraints b figures j))) (range (k + 1) n)

      go : (o : Option Row) → smallest (edge_ways constraints b figures k) ≡ o → (length rest ≡ n → all_from (edge_covered constraints b figures) (k + 1) n ≡ true)
          → length rest ≤ n → length (listed o ++ rest) ≡ suc n → (edge_covered constraints b figures k && all_from (edge_covered constraints b figures) (k + 1) n) ≡ true
      go none e ih few h = absurd (omega arith)
      go (some r) e ih few h = rw (edge-some constraints b figures k r e) (ih (omega arith))

  edges-all : length (edge_rows constraints b) ≡ edges_of b → all_from (edge_covered constraints b (figures_of constraints b)) 0 (edges_of b) ≡ true
  unfolding edge_rows
  edges-all h = edges-each (figures_of constraints b) 0 (edges_of b) h

  -- words for a row of each node and each edge: all are covered
  pub complete-covered : length (plan_words constraints b) ≡ (size_of b + edges_of b) * 8 → all_covered constraints b ≡ true
  unfolding plan_words rows_of all_covered node_rows edge_rows
  complete-covered h =
      let n = node-few constraints b (size_of b) no_figures in
      let e = edge-few (λ j. smallest (edge_ways constraints b (figures_of constraints b) j)) 0 (edges_of b) in
      let a = length-append (node_rows constraints b) (edge_rows constraints b) in
      let w = words-length (node_rows constraints b ++ edge_rows constraints b) in
      rw (nodes-all (omega arith)) (edges-all (omega arith))

  -- an answered plan has the words of its rows
  answered-length : (x : PlanRows) → Ok x ≡ bounded_plan constraints b → length (plan_words constraints b) ≡ x.length
  unfolding bounded_plan answered_plan
  answered-length x e = go (leb (bound constraints b) most_read) refl
    where
      go : (t : Bool) → leb (bound constraints b) most_read ≡ t → length (plan_words constraints b) ≡ x.length
      go true h = let k : Ok x ≡ Ok (answered_plan constraints b) = rw h at e in let same : x ≡ answered_plan constraints b = cc in rw same
      go false h = let k : Ok x ≡ Err Bound = rw h at e in cc

  -- so a plan that is answered with all its rows is the plan
  pub plan-complete : (x : PlanRows) (n : ℕ) → Ok x ≡ bounded_plan constraints b → n ≡ (size_of b + edges_of b) * 8 → x.length ≡ n → Ok x ≡ covered_plan constraints b
  unfolding covered_plan
  plan-complete x n e m l = e ∙ rw (complete-covered (answered-length x e ∙ l ∙ m))
