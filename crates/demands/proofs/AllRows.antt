-- All rows of a covered plan, read by a reader of a graph's lists: none is unfit, and what is gathered leaves out no match. Assumes nothing.
use native.Mathlib.Omega.{arith}
use Rattle.std.proofs.Math.Decide.{dec_le}
use Rattle.std.specs.Prelude.{◌≡◌, get_or}
use Rattle.std.proofs.Math.Path.{refl}
use Rattle.std.proofs.Common.{sym, ap, subst, ◌∙◌, true≢false, length-append}
use Rattle.std.proofs.Math.Bool.{true}
use Rattle.std.proofs.lemmas.Bool.{false≢true}
use mathlib.Core.List.{List, [], ◌∷◌, ◌++◌, flat_map}
use Rattle.std.proofs.Math.Option.{Option, some, none}
use Prim.Native.Nat.{ℕ, zero, suc, ◌+◌, ◌≤◌, ◌<◌}
use Rattle.std.proofs.Math.ListN.{length, length-replicate, get_or-append}
use Rattle.std.proofs.lemmas.List.{get_or_at}
use Rattle.rules.specs.Lists.{range, all_from}
use Rattle.rules.specs.Graph.{Graph}
use Rattle.rules.specs.Pattern.{size_of, edges_of}
use Rattle.rules.specs.Plan.{no_figures, covered, smallest, all_ways, figures_with, figures_after, node_rows_from, node_rows, figures_of, edge_ways, listed, edge_rows, rows_of, edge_covered, all_covered}
use Rattle.rules.specs.Listing.{Reader, Gathered, nothing, pairs_in, with_node, with_edge, with_row, with_rows}
use Rattle.rules.specs.declared.Row.{Row}
use Rattle.laws.specs.Cases.{first-holds, second-holds}
use Rattle.laws.specs.Each.{all-each}
use Rattle.laws.specs.Covering.{rows-next, rows-stop, rows-zero, edge-none, none-covered}
use Rattle.laws.specs.PatternLaws.{RightPattern}
use Rattle.laws.specs.Rows.{EdgeRow, next-row, edge-row}
use Rattle.demands.specs.Faithful.{Faithful}
use Rattle.demands.specs.Gathers.{Pairs, Gets, lists_of}
use Rattle.demands.proofs.Gathers.{node-gets, node-read, edge-read}
use Rattle.demands.proofs.EdgeRows.{row-pairs}
use Rattle.demands.specs.AllRows.{Whole, Covers, PairsUpTo, Joins}

-- one row more
with-next : (r : Reader) (b : List ℕ) (row : Row) (rows : List Row) (got next : Gathered) → with_row r b got row ≡ some next → with_rows r b (row ∷ rows) got ≡ with_rows r b rows next
unfolding with_rows
with-next r b row rows got next e = rw (e, with_rows)

module _ {g : Graph} {constraints b : List ℕ} {r : Reader} (right : RightPattern b) (faithful : Faithful g constraints r) where
  -- ---- node rows
  nodes-covered : (n : ℕ) (figures : List ℕ) (got : Gathered) → Gets g b figures got
      → Covers g b r (node_rows_from constraints b n figures) (figures_after figures (node_rows_from constraints b n figures)) got
  unfolding figures_after
  nodes-covered zero figures got gets = rw rows-zero record { got = got; reads = λ rest. refl; gets = gets; same = refl }
  nodes-covered (suc n) figures got gets = go (smallest (all_ways constraints b figures)) refl (nodes-covered n)
    where
      go : (o : Option Row) → smallest (all_ways constraints b figures) ≡ o
          → ((figures : List ℕ) (got : Gathered) → Gets g b figures got → Covers g b r (node_rows_from constraints b n figures) (figures_after figures (node_rows_from constraints b n figures)) got)
          → Covers g b r (node_rows_from constraints b (suc n) figures) (figures_after figures (node_rows_from constraints b (suc n) figures)) got
      go none e ih = rw (rows-stop constraints b n figures e) record { got = got; reads = λ rest. refl; gets = gets; same = refl }
      go (some row) e ih =
          let node = next-row constraints b figures right row e in
          let next = with_node r b got row (lists_of g constraints got row) in
          let later = ih (figures_with figures row) next (node-gets faithful gets node.fetches node.number) in
          rw (rows-next constraints b n figures row e) record {
            got = later.got;
            reads = λ rest. with-next r b row (node_rows_from constraints b n (figures_with figures row) ++ rest) got next (node-read faithful gets node.fetches node.kind) ∙ later.reads rest;
            gets = later.gets;
            same = later.same ∙ unfold with_node in refl;
          }

  -- ---- edge rows
  module _ (figures : List ℕ) (all-known : (u : ℕ) → u < size_of b → covered figures u ≡ true) where
    edge-joined : (k : ℕ) (got : Gathered) (row : Row) → Gets g b figures got → PairsUpTo g b k got → EdgeRow constraints b figures k row
        → Gets g b figures (with_edge b got row (lists_of g constraints got row)) × PairsUpTo g b (k + 1) (with_edge b got row (lists_of g constraints got row))
    unfolding with_edge
    edge-joined k got row gets pairs edge =
        let size : length got.pairs ≡ k = pairs.0 in
        (record { size = gets.size; node = gets.node }, (length-append got.pairs (new ∷ []) ∙ omega arith, λ j l. at j l (dec_le k j)))
      where
        new : List (ℕ × ℕ)
        new = flat_map (pairs_in b got row) (lists_of g constraints got row)

        new-pairs : Pairs g b k new
        new-pairs =
            let own : EdgeRow constraints b figures row.number row = subst (λ j. EdgeRow constraints b figures j row) (sym edge.edge.number) edge in
            subst (λ j. Pairs g b j new) edge.edge.number (row-pairs right gets all-known own)

        at : (j : ℕ) → j < k + 1 → Dec (k ≤ j) → Pairs g b j (get_or (got.pairs ++ new ∷ []) j [])
        at j l (yes h) =
            let e : j ≡ k = omega arith in
            rw (e, get_or_at got.pairs new [] [] k pairs.0) new-pairs
        at j l (no h) =
            let i : j < length got.pairs = omega (arith, pairs.0) in
            rw (get_or-append got.pairs (new ∷ []) [] j i) (pairs.1 j (omega arith))

    edges-joined : (n k : ℕ) (got : Gathered) → k + n ≤ edges_of b → ((j : ℕ) → k ≤ j → j < k + n → edge_covered constraints b figures j ≡ true)
        → Gets g b figures got → PairsUpTo g b k got
        → Joins g b r (flat_map (λ j. listed (smallest (edge_ways constraints b figures j))) (range k n)) figures (k + n) got
    unfolding flat_map range listed
    edges-joined zero k got l c gets pairs =
        let e : k + 0 ≡ k = omega arith in
        record { got = got; reads = unfold with_rows in refl; gets = gets; pairs = rw e pairs }
    edges-joined (suc n) k got l c gets pairs =
        go (smallest (edge_ways constraints b figures k)) refl (λ next. edges-joined n (k + 1) next (omega arith) (λ j x y. c j (omega arith) (omega arith)))
      where
        rest : List Row
        rest = flat_map (λ j. listed (smallest (edge_ways constraints b figures j))) (range (k + 1) n)

        go : (o : Option Row) → smallest (edge_ways constraints b figures k) ≡ o
            → ((next : Gathered) → Gets g b figures next → PairsUpTo g b (k + 1) next → Joins g b r rest figures (k + 1 + n) next)
            → Joins g b r (listed o ++ rest) figures (k + suc n) got
        go none e ih = absurd (true≢false (sym (c k (omega arith) (omega arith)) ∙ edge-none constraints b figures k e))
        go (some row) e ih =
            let edge = edge-row constraints b figures right k (omega arith) row e in
            let next = with_edge b got row (lists_of g constraints got row) in
            let step = edge-joined k got row gets pairs edge in
            let later = ih next step.0 step.1 in
            let same : k + suc n ≡ k + 1 + n = omega arith in
            record {
              got = later.got;
              reads = with-next r b row rest got next (edge-read faithful gets edge.fetches edge.kind) ∙ later.reads;
              gets = later.gets;
              pairs = rw same later.pairs;
            }

  -- ---- all rows
  nothing-gets : Gets g b no_figures (nothing b)
  unfolding nothing
  nothing-gets = record { size = length-replicate (size_of b) []; node = λ u l h. absurd (false≢true (sym (none-covered u) ∙ h)) }

  pub record AllRead : Type 0 where
    pub got : Gathered
    pub reads : with_rows r b (rows_of constraints b) (nothing b) ≡ some got
    pub whole : Whole g b got

  -- the rows of a covered pattern are read without an unfit list, and what is gathered is enough
  pub all-read : all_covered constraints b ≡ true → AllRead
  unfolding all_covered rows_of node_rows edge_rows figures_of
  all-read h =
      let figures = figures_after no_figures (node_rows_from constraints b (size_of b) no_figures) in
      let nodes : all_from (covered figures) 0 (size_of b) ≡ true = first-holds (all_from (covered figures) 0 (size_of b)) (all_from (edge_covered constraints b figures) 0 (edges_of b)) h in
      let edges : all_from (edge_covered constraints b figures) 0 (edges_of b) ≡ true = second-holds (all_from (covered figures) 0 (size_of b)) (all_from (edge_covered constraints b figures) 0 (edges_of b)) h in
      let known : (u : ℕ) → u < size_of b → covered figures u ≡ true = λ u l. all-each (covered figures) 0 (size_of b) nodes u (omega arith) (omega arith) in
      let first = nodes-covered (size_of b) no_figures (nothing b) nothing-gets in
      let none_yet : PairsUpTo g b 0 first.got = (ap length first.same ∙ unfold nothing in refl, λ j l. absurd (omega arith)) in
      let second = edges-joined figures known (edges_of b) 0 first.got (omega arith) (all-each (edge_covered constraints b figures) 0 (edges_of b) edges) first.gets none_yet in
      record {
        got = second.got;
        reads = first.reads _ ∙ second.reads;
        whole = record { candidates = λ u l. second.gets.node u l (known u l); pairs = λ j l. second.pairs.1 j (omega arith) };
      }
