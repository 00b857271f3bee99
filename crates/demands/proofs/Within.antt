-- What is read for the rows of a plan stays within their figures, whatever lists there are, as long as none has more than its N. Assumes nothing.
use native.Mathlib.Omega.{arith}
use Rattle.std.proofs.Math.Decide.{ℕ_discrete}
use Rattle.std.proofs.Math.Nat.{mul-suc, mul-le-mul, mul-le-mul_left}
use Rattle.std.specs.Prelude.{◌≡◌, Bool, true, false, cond, eqb, set, replicate}
use Rattle.std.proofs.Math.Path.{refl, ap}
use Rattle.std.proofs.Common.{sym, ◌∙◌, length-append, eqb-true, eq-eqb, ne_eqb}
use mathlib.Core.List.{List, [], ◌∷◌, ◌++◌, map, flat_map}
use Rattle.std.proofs.Math.Option.{Option, some, none, some-injective, none-ne-some}
use Prim.Native.Nat.{ℕ, zero, suc, ◌+◌, ◌*◌, ◌≤◌, ◌<◌}
use Rattle.std.proofs.Math.ListN.{length, get_or, length-set, length-replicate}
use Rattle.std.proofs.lemmas.List.{length-map}
use Rattle.std.proofs.Math.Seq.{get_or-set_same, get_or-set_other}
use Rattle.rules.specs.Lists.{range, keep, sum, product, choices}
use Rattle.rules.specs.Store.{constraint_at}
use Rattle.rules.specs.Pattern.{size_of, edges_of, meets_both}
use Rattle.rules.specs.Plan.{chosen_of, no_figures, figure_of, figure_by, smallest, all_ways, figures_with, figures_after, node_rows_from, node_rows, figures_of, edge_ways, listed, edge_rows, rows_of, bound}
use Rattle.rules.specs.Listing.{Reader, Read, read_found, reader_of, list_part, rule_broken, entry_list, read_keys, entries_read, Gathered, nothing, keys_from, candidates_of, with_node, with_edge, with_row, with_rows}
use Rattle.rules.specs.declared.Constraint.{Constraint}
use Rattle.rules.specs.declared.Row.{Row}
use Rattle.rules.specs.declared.Entry.{Entry}
use Rattle.rules.specs.Listing.{Found}
use Rattle.std.specs.Prelude.{Some, None}
use Rattle.laws.specs.Keep.{keep-most}
use Rattle.laws.specs.Fitness.{fit-most}
use Rattle.laws.specs.Covering.{rows-next, rows-stop, rows-zero}
use Rattle.laws.specs.PatternLaws.{RightPattern}
use Rattle.laws.specs.Choices.{choices-length}
use Rattle.laws.specs.Rows.{Fetches, next-row, edge-row}
use Rattle.laws.specs.Sets.{set-few}
use Rattle.laws.specs.GroupBytes.{length-entries}
use Rattle.laws.specs.Sums.{sum-both}
use Rattle.demands.specs.Within.{Short, RowGiven, RowsGiven, figures-sum, read_so_far, Kept, Fetched}

-- ---- lists have at most N entries
found-short : (nodes : List ℕ) (c : Constraint) (entries : List ℕ) (f : Found) (l : List Entry) → read_found nodes c entries f ≡ some l → length l ≤ c.most
unfolding read_found
found-short nodes c entries (Some at) l e = go (eqb (rule_broken nodes c entries at.start at.count) 0) refl e
  where
    go : (t : Bool) → eqb (rule_broken nodes c entries at.start at.count) 0 ≡ t → cond t (some (entry_list (list_part entries at.start at.count) at.count)) none ≡ some l → length l ≤ c.most
    go true b q =
        let size = ap length (some-injective (entry_list (list_part entries at.start at.count) at.count) l q) in
        omega (arith, length-entries (list_part entries at.start at.count) at.count, fit-most nodes c entries at.start at.count (eqb-true (rule_broken nodes c entries at.start at.count) 0 b))
    go false b q = absurd (none-ne-some l q)
found-short nodes c entries None l e = rw (sym (some-injective [] l e)) (omega arith)

-- so too of the reader of any store
pub reader-short : (nodes constraints groups entries : List ℕ) → Short constraints (reader_of nodes constraints groups entries)
unfolding reader_of
reader-short nodes constraints groups entries = record { most = λ c key l e. found-short nodes (constraint_at constraints c) entries _ l e }

-- ---- sets are no longer than what they are made of
nodes-length : (reads : List Read) → length (flat_map (λ x. map (λ e. e.node) x.entries) reads) ≡ entries_read reads
unfolding flat_map entries_read sum
nodes-length [] = refl
nodes-length (x ∷ reads) =
    length-append (map (λ e. e.node) x.entries) (flat_map (λ x. map (λ e. e.node) x.entries) reads)
    ∙ rw (length-map x.entries (λ e. e.node), nodes-length reads)

-- there are no more candidates than entries read
candidates-few : (r : Reader) (b : List ℕ) (u : ℕ) (reads : List Read) → length (candidates_of r b u reads) ≤ entries_read reads
unfolding candidates_of
candidates-few r b u reads =
    let nodes = flat_map (λ x. map (λ e. e.node) x.entries) reads in
    omega (arith, set-few (keep (λ v. meets_both b u (r.value v)) nodes), keep-most (λ v. meets_both b u (r.value v)) nodes, nodes-length reads)

-- ---- the lists of some keys
read-none : entries_read [] ≡ 0
unfolding entries_read sum
read-none = refl

read-one : (x : Read) (reads : List Read) → entries_read (x ∷ reads) ≡ length x.entries + entries_read reads
unfolding entries_read sum
read-one x reads = refl

module _ {constraints : List ℕ} {r : Reader} (short : Short constraints r) where
  keys-short : (c : ℕ) (keys : List (List ℕ)) (reads : List Read) → read_keys r c keys ≡ some reads → entries_read reads ≤ (constraint_at constraints c).most * length keys
  unfolding read_keys
  keys-short c [] reads e = rw (sym (some-injective [] reads e), read-none) (omega arith)
  keys-short c (key ∷ keys) reads e = go (r.list c key) refl (read_keys r c keys) (keys-short c keys) e
    where
      go : (o : Option (List Entry)) → r.list c key ≡ o → (q : Option (List Read)) → ((reads : List Read) → q ≡ some reads → entries_read reads ≤ (constraint_at constraints c).most * length keys)
          → elim o [ none ↦ none | some l ↦ elim q [ none ↦ none | some reads ↦ some (record { key = key; entries = l } ∷ reads) ] ] ≡ some reads
          → entries_read reads ≤ (constraint_at constraints c).most * suc (length keys)
      go none a q ih x = absurd (none-ne-some reads x)
      go (some l) a none ih x = absurd (none-ne-some reads x)
      go (some l) a (some later) ih x =
          let k = ih later refl in
          let m = short.most c key l a in
          rw (sym (some-injective (record { key = key; entries = l } ∷ later) reads x), mul-suc (constraint_at constraints c).most (length keys), read-one) (omega arith)

  -- ---- one row
  product-few : (figures : List ℕ) (got : Gathered) → ((u : ℕ) → length (get_or got.candidates u []) ≤ get_or figures u 0) → (ws : List ℕ)
      → product (map length (map (λ w. get_or got.candidates w []) ws)) ≤ product (map (figure_of figures) ws)
  unfolding product
  product-few figures got few [] = omega arith
  product-few figures got few (w ∷ ws) = mul-le-mul (few w) (product-few figures got few ws)

  row-few : {b figures : List ℕ} {row : Row} (got : Gathered) → Fetches constraints b figures row → ((u : ℕ) → length (get_or got.candidates u []) ≤ get_or figures u 0)
      → (reads : List Read) → read_keys r row.constraint (keys_from got row) ≡ some reads → entries_read reads ≤ row.figure
  unfolding keys_from figure_by
  row-few {b} {figures} {row} got fetches few reads e =
      let keys = choices (map (λ w. get_or got.candidates w []) (chosen_of row)) in
      let k : length keys ≤ product (map (figure_of figures) (chosen_of row)) =
      rw (choices-length (map (λ w. get_or got.candidates w []) (chosen_of row))) (product-few figures got few (chosen_of row)) in
      omega (arith, keys-short row.constraint keys reads e, mul-le-mul_left (constraint_at constraints row.constraint).most k, fetches.figure)

-- ---- rows that were read
row-given : (r : Reader) (b : List ℕ) (got : Gathered) (row : Row) (next : Gathered) → with_row r b got row ≡ some next → RowGiven r b got row next
unfolding with_row
row-given r b got row next e = go (read_keys r row.constraint (keys_from got row)) refl e
  where
    go : (o : Option (List Read)) → read_keys r row.constraint (keys_from got row) ≡ o
        → elim o [ none ↦ none | some reads ↦ some (cond (eqb row.kind 0) (with_node r b got row reads) (with_edge b got row reads)) ] ≡ some next → RowGiven r b got row next
    go none a q = absurd (none-ne-some next q)
    go (some reads) a q = record { reads = reads; keys = a; is = sym (some-injective _ next q) }

rows-given : (r : Reader) (b : List ℕ) (got : Gathered) (row : Row) (rows : List Row) (last : Gathered) → with_rows r b (row ∷ rows) got ≡ some last → RowsGiven r b got row rows last
unfolding with_rows
rows-given r b got row rows last e = go (with_row r b got row) refl e
  where
    go : (o : Option Gathered) → with_row r b got row ≡ o → elim o [ none ↦ none | some next ↦ with_rows r b rows next ] ≡ some last → RowsGiven r b got row rows last
    go none a q = absurd (none-ne-some last q)
    go (some next) a q = record { next = next; here = row-given r b got row next a; later = q }

-- ---- all rows
node-total : (r : Reader) (b : List ℕ) (got : Gathered) (row : Row) (reads : List Read) → read_so_far (with_node r b got row reads) ≡ read_so_far got + entries_read reads
unfolding with_node
node-total r b got row reads = omega arith

edge-total : (b : List ℕ) (got : Gathered) (row : Row) (reads : List Read) → read_so_far (with_edge b got row reads) ≡ read_so_far got + entries_read reads
unfolding with_edge
edge-total b got row reads = omega arith

none-at : (n u : ℕ) → length (get_or {A = List ℕ} (replicate n []) u []) ≡ 0
none-at zero u = refl
none-at (suc n) zero = refl
none-at (suc n) (suc u) = none-at n u

module _ {constraints b : List ℕ} {r : Reader} (short : Short constraints r) (right : RightPattern b) where
  node-kept : (figures : List ℕ) (got : Gathered) (row : Row) (reads : List Read) → Fetches constraints b figures row → row.number ≡ row.fetched → entries_read reads ≤ row.figure
      → Kept b figures got → Kept b (figures_with figures row) (with_node r b got row reads)
  unfolding with_node
  node-kept figures got row reads fetches same h kept =
      record {
        size = length-set figures row.number row.figure ∙ kept.size;
        long = length-set got.candidates row.fetched (candidates_of r b row.fetched reads) ∙ kept.long;
        few = λ u. go u (ℕ_discrete u row.fetched);
      }
    where
      go : (u : ℕ) → Dec (u ≡ row.fetched) → length (get_or (set got.candidates row.fetched (candidates_of r b row.fetched reads)) u []) ≤ get_or (set figures row.number row.figure) u 0
      go u (yes e) =
          let inside : row.fetched < length got.candidates = omega (arith, kept.long, fetches.fetched) in
          let below : row.fetched < length figures = omega (arith, kept.size, fetches.fetched, right.header.few) in
          rw (e, same, get_or-set_same got.candidates row.fetched (candidates_of r b row.fetched reads) [] inside, get_or-set_same figures row.fetched row.figure 0 below)
          (omega (arith, candidates-few r b row.fetched reads))
      go u (no n) =
          rw (same, get_or-set_other got.candidates row.fetched u (candidates_of r b row.fetched reads) [] n, get_or-set_other figures row.fetched u row.figure 0 n) (kept.few u)

  nodes-within : (n : ℕ) (figures : List ℕ) (got last : Gathered) (rest : List Row) → Kept b figures got → with_rows r b (node_rows_from constraints b n figures ++ rest) got ≡ some last
      → Fetched r b (figures_after figures (node_rows_from constraints b n figures)) (node_rows_from constraints b n figures) rest got last
  unfolding figures_after sum
  nodes-within zero figures got last rest kept e = rw rows-zero record { mid = got; kept = kept; later = rw rows-zero at e; total = omega arith }
  nodes-within (suc n) figures got last rest kept e = go (smallest (all_ways constraints b figures)) refl (λ next got. nodes-within n next got last rest)
    where
      go : (o : Option Row) → smallest (all_ways constraints b figures) ≡ o
          → ((next : List ℕ) (got : Gathered) → Kept b next got → with_rows r b (node_rows_from constraints b n next ++ rest) got ≡ some last
          → Fetched r b (figures_after next (node_rows_from constraints b n next)) (node_rows_from constraints b n next) rest got last)
          → Fetched r b (figures_after figures (node_rows_from constraints b (suc n) figures)) (node_rows_from constraints b (suc n) figures) rest got last
      go none a ih = rw (rows-stop constraints b n figures a) record { mid = got; kept = kept; later = rw (rows-stop constraints b n figures a) at e; total = omega arith }
      go (some row) a ih =
          let node = next-row constraints b figures right row a in
          let given = rows-given r b got row (node_rows_from constraints b n (figures_with figures row) ++ rest) last (rw (rows-next constraints b n figures row a) at e) in
          let reads = given.here.reads in
          let most = row-few short got node.fetches kept.few reads given.here.keys in
          let is : given.next ≡ with_node r b got row reads = given.here.is ∙ rw (eq-eqb row.kind 0 node.kind) in
          let later = ih (figures_with figures row) given.next (rw is (node-kept figures got row reads node.fetches node.number most kept)) given.later in
          let one : read_so_far given.next ≡ read_so_far got + entries_read reads = ap read_so_far is ∙ node-total r b got row reads in
          rw (rows-next constraints b n figures row a) record {
            mid = later.mid;
            kept = later.kept;
            later = later.later;
            total = omega (arith, later.total);
          }

  edge-kept : (figures : List ℕ) (got : Gathered) (row : Row) (reads : List Read) → Kept b figures got → Kept b figures (with_edge b got row reads)
  unfolding with_edge
  edge-kept figures got row reads kept = record { size = kept.size; long = kept.long; few = kept.few }

  edges-within : (figures : List ℕ) (n k : ℕ) (got last : Gathered) → k + n ≤ edges_of b → Kept b figures got
      → with_rows r b (flat_map (λ j. listed (smallest (edge_ways constraints b figures j))) (range k n)) got ≡ some last
      → read_so_far last ≤ read_so_far got + figures-sum (flat_map (λ j. listed (smallest (edge_ways constraints b figures j))) (range k n))
  unfolding flat_map range listed sum
  edges-within figures zero k got last l kept e =
      let same : got ≡ last = some-injective got last (unfold with_rows in e) in
      rw (← same) (omega arith)
  edges-within figures (suc n) k got last l kept e = go (smallest (edge_ways constraints b figures k)) refl e (λ next. edges-within figures n (k + 1) next last (omega arith))
    where
      rest : List Row
      rest = flat_map (λ j. listed (smallest (edge_ways constraints b figures j))) (range (k + 1) n)

      go : (o : Option Row) → smallest (edge_ways constraints b figures k) ≡ o → with_rows r b (listed o ++ rest) got ≡ some last
          → ((next : Gathered) → Kept b figures next → with_rows r b rest next ≡ some last → read_so_far last ≤ read_so_far next + figures-sum rest)
          → read_so_far last ≤ read_so_far got + figures-sum (listed o ++ rest)
      go none a e ih = ih got kept e
      go (some row) a e ih =
          let edge = edge-row constraints b figures right k (omega arith) row a in
          let given = rows-given r b got row rest last e in
          let reads = given.here.reads in
          let most = row-few short got edge.fetches kept.few reads given.here.keys in
          let is : given.next ≡ with_edge b got row reads = given.here.is ∙ rw (ne_eqb row.kind 0 (λ z. omega (arith, edge.kind))) in
          let later = ih given.next (rw is (edge-kept figures got row reads kept)) given.later in
          let one : read_so_far given.next ≡ read_so_far got + entries_read reads = ap read_so_far is ∙ edge-total b got row reads in
          omega arith

  nothing-kept : Kept b no_figures (nothing b)
  unfolding nothing
  nothing-kept = record { size = refl; long = length-replicate (size_of b) []; few = λ u. omega (arith, none-at (size_of b) u) }

  -- the entries read for all rows are at most the sum of their figures
  pub all-within : (got : Gathered) → with_rows r b (rows_of constraints b) (nothing b) ≡ some got → got.nodes + got.edges ≤ bound constraints b
  unfolding rows_of node_rows edge_rows figures_of bound
  all-within got e =
      let figures = figures_after no_figures (node_rows_from constraints b (size_of b) no_figures) in
      let edges = flat_map (λ j. listed (smallest (edge_ways constraints b figures j))) (range 0 (edges_of b)) in
      let first = nodes-within (size_of b) no_figures (nothing b) got edges nothing-kept e in
      let second = edges-within figures (edges_of b) 0 first.mid got (omega arith) first.kept first.later in
      let none_yet : read_so_far (nothing b) ≡ 0 = unfold nothing in refl in
      omega (arith, first.total, sum-both (λ r. r.figure) (node_rows_from constraints b (size_of b) no_figures) edges)
