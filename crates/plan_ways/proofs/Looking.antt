-- What the functions that look for the best way tell, in the words of their tests and callees. Assumes nothing.
use mathlib.Core.Path.{◌≡◌, refl, sym, ap, ◌∙◌}
use mathlib.Core.Bool.{Bool, true, false, cond, not}
use mathlib.Core.List.{List, [], ◌∷◌, flat_map, append-nil}
use mathlib.Core.Option.{Option, none}
use Prim.Native.Nat.{ℕ, ◌≤◌, ◌<◌}
use native.Mathlib.Omega.{arith}
use lib.Dec.{eqb}
use lib.ListN.{get_or}
use borrow.Author.Tests.{eqb-true, eq-eqb, ne_eqb, lt-ltb, le-ltb}
use Rattle.rules.specs.Lists.{range}
use Rattle.rules.specs.Store.{constraints_in, constraint_alone, constraint_at}
use Rattle.rules.specs.Pattern.{size_of, pattern_label, pattern_from, pattern_to}
use Rattle.rules.specs.Plan.{row_of, covered, figure_by, smallest, node_ways, all_ways, ends_of, other_end, end_ways, edge_ways}
use Rattle.rules.specs.declared.Row.{Row}
use Rattle.rules.specs.declared.Constraint.{Constraint}
use Rattle.laws.specs.Smallest.{better, smallest-append}
use Rattle.laws.specs.Keep.{flat-keep}
use Rattle.std.specs.Prelude.{Some, None}
use Rattle.std.specs.Prelude as code
use Rattle.plan_ways.specs.Ways.{one_suited, Inside, rows_by, slots}
use Rattle.plan_ways.proofs.Ends.{label-differs, ways-missing, ways-made}

-- ---- the best way by a constraint that was read
module _ (constraints b figures : List ℕ) (kind number u c label : ℕ) (other : code.Option ℕ) (k : Constraint) (read : k ≡ constraint_at constraints c) (told : label ≡ pattern_label b u) where
  pub by-none : (label ≡ k.label → ⊥) → none ≡ smallest (rows_by constraints b figures kind number u c other)
  by-none n = label-differs b figures u label (constraint_at constraints c) _ other told (λ q. n (q ∙ sym (ap (λ d. d.label) read)))

  module _ (alone : constraint_alone (constraint_at constraints c) ≡ true) (agrees : label ≡ k.label) (named : (o : ℕ) → o < size_of b → not (eqb (pattern_label b o) 0) ≡ true) (inside : Inside b other) where
    pub by-unsuited : one_suited b figures u k other ≡ false → none ≡ smallest (rows_by constraints b figures kind number u c other)
    by-unsuited h =
        ways-missing b figures u label (constraint_at constraints c) alone told (agrees ∙ ap (λ d. d.label) read) named _ other inside (ap (λ d. one_suited b figures u d other) (sym read) ∙ h)

    pub by-slots : (x : Option Row) (own : Row) → one_suited b figures u k other ≡ true → own ≡ row_of kind number u c [] 0 → x ≡ slots b figures u k own other
        → x ≡ smallest (rows_by constraints b figures kind number u c other)
    unfolding figure_by row_of
    by-slots x own h o e =
        e ∙ rw (o, read) (ways-made b figures u label (constraint_at constraints c) alone told (agrees ∙ ap (λ d. d.label) read) named (row_of kind number u c [] 0) other inside (ap (λ d. one_suited b figures u d other) (sym read) ∙ h))

-- ---- uncovered nodes
module _ (constraints b figures : List ℕ) where
  pub covered-none : (u : ℕ) (x : Option Row) → (get_or figures u 0 ≡ 0 → ⊥) → x ≡ none → x ≡ smallest (cond (not (covered figures u)) (node_ways constraints b figures u) [])
  unfolding covered smallest
  covered-none u x n e = e ∙ rw (ne_eqb (get_or figures u 0) 0 n)

  pub uncovered-ways : (u : ℕ) (x : Option Row) → get_or figures u 0 ≡ 0 → x ≡ smallest (node_ways constraints b figures u)
      → x ≡ smallest (cond (not (covered figures u)) (node_ways constraints b figures u) [])
  unfolding covered
  uncovered-ways u x z e = e ∙ rw (eq-eqb (get_or figures u 0) 0 z)

  pub all-flat : smallest (flat_map (λ u. cond (not (covered figures u)) (node_ways constraints b figures u) []) (range 0 (size_of b))) ≡ smallest (all_ways constraints b figures)
  unfolding all_ways
  all-flat = sym (ap smallest (flat-keep (node_ways constraints b figures) (λ u. not (covered figures u)) (range 0 (size_of b))))

  pub node-flat : (u : ℕ) → smallest (flat_map (λ c. rows_by constraints b figures 0 u u c None) (range 0 (constraints_in constraints))) ≡ smallest (node_ways constraints b figures u)
  unfolding node_ways
  node-flat u = refl

  pub edge-flat : (j : ℕ) → smallest (flat_map (λ c. flat_map (end_ways constraints b figures j c) (ends_of b j)) (range 0 (constraints_in constraints))) ≡ smallest (edge_ways constraints b figures j)
  unfolding edge_ways
  edge-flat j = refl

  -- ---- the two ends of an edge
  other-to : (j : ℕ) → other_end b j (pattern_to b j) ≡ pattern_from b j
  unfolding other_end
  other-to j = go (eqb (pattern_to b j) (pattern_from b j)) refl
    where
      go : (t : Bool) → eqb (pattern_to b j) (pattern_from b j) ≡ t → cond t (pattern_to b j) (pattern_from b j) ≡ pattern_from b j
      go true e = eqb-true (pattern_to b j) (pattern_from b j) e
      go false e = refl

  other-from : (j : ℕ) → other_end b j (pattern_from b j) ≡ pattern_to b j
  unfolding other_end
  other-from j = rw (eq-eqb (pattern_from b j) (pattern_from b j) refl)

  two-ends : (j c x y : ℕ) → smallest (flat_map (end_ways constraints b figures j c) (x ∷ y ∷ [])) ≡ better (smallest (end_ways constraints b figures j c x)) (smallest (end_ways constraints b figures j c y))
  unfolding flat_map
  two-ends j c x y = rw append-nil (smallest-append (end_ways constraints b figures j c x) (end_ways constraints b figures j c y))

  end-from : (j c : ℕ) → rows_by constraints b figures 1 j (pattern_from b j) c (Some (pattern_to b j)) ≡ end_ways constraints b figures j c (pattern_from b j)
  unfolding end_ways
  end-from j c = rw (other-from j)

  end-to : (j c : ℕ) → rows_by constraints b figures 1 j (pattern_to b j) c (Some (pattern_from b j)) ≡ end_ways constraints b figures j c (pattern_to b j)
  unfolding end_ways
  end-to j c = rw (other-to j)

  module _ (j c x y : ℕ) (ex : x ≡ pattern_from b j) (ey : y ≡ pattern_to b j) (p q r : Option Row) where
    pub from-first : x < y → p ≡ smallest (rows_by constraints b figures 1 j x c (Some y)) → q ≡ smallest (rows_by constraints b figures 1 j y c (Some x)) → r ≡ better p q
        → r ≡ smallest (flat_map (end_ways constraints b figures j c) (ends_of b j))
    unfolding ends_of
    from-first h ep eq er =
        let l : pattern_from b j < pattern_to b j = omega arith in
        er
        ∙ rw (ep, eq, ex, ey, lt-ltb (pattern_from b j) (pattern_to b j) l, two-ends j c (pattern_from b j) (pattern_to b j), end-from j c, end-to j c)

    pub to-first : y ≤ x → p ≡ smallest (rows_by constraints b figures 1 j y c (Some x)) → q ≡ smallest (rows_by constraints b figures 1 j x c (Some y)) → r ≡ better p q
        → r ≡ smallest (flat_map (end_ways constraints b figures j c) (ends_of b j))
    unfolding ends_of
    to-first h ep eq er =
        let l : pattern_to b j ≤ pattern_from b j = omega arith in
        er
        ∙ rw (ep, eq, ex, ey, le-ltb (pattern_from b j) (pattern_to b j) l, two-ends j c (pattern_to b j) (pattern_from b j), end-from j c, end-to j c)
