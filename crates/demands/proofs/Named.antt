-- Once all lists are read, those that were read are exactly those that the rule names: candidates that a key is chosen from do not change after it. Assumes nothing.
use Rattle.std.proofs.Common.{arith, sym, ap₂, ◌∙◌, eqb-true}
use Rattle.std.proofs.Math.Path.{◌≡◌, refl, ap}
use Rattle.std.specs.Prelude.{Bool, cond, ℕ, zero, suc, ◌<◌}
use Rattle.std.proofs.Math.Bool.{true, false, true≢false}
use mathlib.Core.List.{List, [], ◌∷◌, ◌++◌, map, flat_map}
use Rattle.std.proofs.Math.Option.{Option, some, none, some-injective}
use Rattle.std.proofs.Math.Dec.{eqb}
use Rattle.std.proofs.Math.Seq.{get_or-set_other}
use Rattle.rules.specs.Lists.{range, choices}
use Rattle.rules.specs.Pattern.{size_of, edges_of}
use Rattle.rules.specs.Plan.{chosen_of, no_figures, covered, smallest, all_ways, figures_with, node_rows_from, node_rows, figures_of, edge_ways, listed, edge_rows, rows_of}
use Rattle.rules.specs.Listing.{Reader, Read, Gathered, read_keys, keys_from, with_node, with_edge, with_row, with_rows}
use Rattle.rules.specs.declared.Row.{Row}
use Rattle.rules.specs.declared.Entry.{Entry}
use Rattle.laws.specs.Every.{Every, every-append, every-more, every-flat, every-range, every-member, map-alike}
use Rattle.laws.specs.Cases.{never-some}
use Rattle.laws.specs.Beside.{beside-every}
use Rattle.laws.specs.Covering.{rows-next, rows-stop, rows-zero, next-says, covered-other}
use Rattle.laws.specs.PatternLaws.{RightPattern}
use Rattle.laws.specs.Rows.{Pick, next-row, edge-row}
use Rattle.demands.specs.Gathers.{candidates_at}
use Rattle.demands.specs.Reads.{ListRead, keys_read, lists_read, lists_named}
use Rattle.demands.specs.Named.{Leaves, Settled, OfEdges}

-- ---- which nodes later rows leave alone
leaves-more : (w : ℕ) (row : Row) (rows : List Row) → (row.kind ≡ 0 → row.fetched ≡ w → ⊥) → Leaves w rows → Leaves w (row ∷ rows)
unfolding Every
leaves-more w row rows h k = (h, k)

settled-more : (row : Row) (rows : List Row) → Every (λ w. Leaves w (row ∷ rows)) (chosen_of row) → Settled rows → Settled (row ∷ rows)
unfolding Settled
settled-more row rows h k = (h, k)

edges-leave : (rows : List Row) → OfEdges rows → (w : ℕ) → Leaves w rows
edges-leave rows h w = every-more (λ row. row.kind ≡ 1) (λ row. row.kind ≡ 0 → row.fetched ≡ w → ⊥) (λ row e z f. omega arith) rows h

edges-settled : (rows : List Row) → OfEdges rows → Settled rows
unfolding Settled Every
edges-settled [] h = tt
edges-settled (row ∷ rows) h = (every-member (λ w. Leaves w (row ∷ rows)) (chosen_of row) (λ w m. edges-leave (row ∷ rows) h w), edges-settled rows h.1)

module _ (constraints : List ℕ) {b : List ℕ} (right : RightPattern b) where
  -- a covered node is fetched by no later row
  nodes-leave : (n : ℕ) (figures : List ℕ) (w : ℕ) → covered figures w ≡ true → Leaves w (node_rows_from constraints b n figures)
  nodes-leave zero figures w known = rw rows-zero (unfold Every in tt)
  nodes-leave (suc n) figures w known = go (smallest (all_ways constraints b figures)) refl (λ next. nodes-leave n next w)
    where
      go : (o : Option Row) → smallest (all_ways constraints b figures) ≡ o → ((next : List ℕ) → covered next w ≡ true → Leaves w (node_rows_from constraints b n next))
          → Leaves w (node_rows_from constraints b (suc n) figures)
      go none e ih = rw (rows-stop constraints b n figures e) (unfold Every in tt)
      go (some row) e ih =
          let fresh = (next-says constraints b figures row e).fresh in
          let own = (next-row constraints b figures right row e).number in
          let apart : w ≡ row.number → ⊥ = λ q. true≢false (sym known ∙ ap (covered figures) q ∙ fresh) in
          rw (rows-next constraints b n figures row e)
          (leaves-more w row _ (λ z f. apart (sym (own ∙ f))) (ih (figures_with figures row) (covered-other figures row.number row.figure w apart ∙ known)))

  nodes-settled : (rest : List Row) → ((w : ℕ) → Leaves w rest) → Settled rest → (n : ℕ) (figures : List ℕ) → Settled (node_rows_from constraints b n figures ++ rest)
  nodes-settled rest leaves settled zero figures = rw rows-zero settled
  nodes-settled rest leaves settled (suc n) figures = go (smallest (all_ways constraints b figures)) refl (nodes-settled rest leaves settled n)
    where
      go : (o : Option Row) → smallest (all_ways constraints b figures) ≡ o → ((next : List ℕ) → Settled (node_rows_from constraints b n next ++ rest))
          → Settled (node_rows_from constraints b (suc n) figures ++ rest)
      go none e ih = rw (rows-stop constraints b n figures e) settled
      go (some row) e ih =
          let next = rows-next constraints b n figures row e in
          let all_of = node_rows_from constraints b n (figures_with figures row) ++ rest in
          let node = next-row constraints b figures right row e in
          let later : (w : ℕ) → covered figures w ≡ true → Leaves w (row ∷ all_of) =
          λ w known. rw next at (every-append (λ r. r.kind ≡ 0 → r.fetched ≡ w → ⊥) (node_rows_from constraints b (suc n) figures) rest (nodes-leave (suc n) figures w known) (leaves w)) in
          rw next
          (settled-more row all_of
          (beside-every (Pick b figures row.fetched) (λ w. Leaves w (row ∷ all_of)) (λ l w p. later w p.known) _ (chosen_of row) node.fetches.chosen)
          (ih (figures_with figures row)))

  edge-rows : OfEdges (edge_rows constraints b)
  unfolding edge_rows
  edge-rows =
      every-flat (λ row. row.kind ≡ 1) (λ j. j < edges_of b) (λ j. listed (smallest (edge_ways constraints b (figures_of constraints b) j)))
      (λ j l. go j l (smallest (edge_ways constraints b (figures_of constraints b) j)) refl) (range 0 (edges_of b)) (every-range (edges_of b) 0 (edges_of b) (omega arith))
    where
      go : (j : ℕ) → j < edges_of b → (o : Option Row) → smallest (edge_ways constraints b (figures_of constraints b) j) ≡ o → OfEdges (listed o)
      go j l none e = unfold Every listed in tt
      go j l (some row) e = unfold Every listed in ((edge-row constraints b (figures_of constraints b) right j l row e).kind, tt)

  all-settled : Settled (rows_of constraints b)
  unfolding rows_of node_rows
  all-settled = nodes-settled (edge_rows constraints b) (edges-leave (edge_rows constraints b) edge-rows) (edges-settled (edge_rows constraints b) edge-rows) (size_of b) no_figures

-- ---- what rows change
module _ (r : Reader) (b : List ℕ) where
  abbrev after : Gathered → Row → Option (List Read) → Option Gathered
  after got row o = elim o [ none ↦ none | some reads ↦ some (cond (eqb row.kind 0) (with_node r b got row reads) (with_edge b got row reads)) ]

  row-keeps : (got next : Gathered) (row : Row) (w : ℕ) → with_row r b got row ≡ some next → (row.kind ≡ 0 → row.fetched ≡ w → ⊥) → candidates_at next w ≡ candidates_at got w
  unfolding with_row with_node with_edge
  row-keeps got next row w e leaves = go (read_keys r row.constraint (keys_from got row)) e
    where
      one : (reads : List Read) (t : Bool) → eqb row.kind 0 ≡ t → candidates_at (cond t (with_node r b got row reads) (with_edge b got row reads)) w ≡ candidates_at got w
      one reads true k = get_or-set_other got.candidates row.fetched w _ [] (λ q. leaves (eqb-true row.kind 0 k) (sym q))
      one reads false k = refl

      go : (o : Option (List Read)) → after got row o ≡ some next → candidates_at next w ≡ candidates_at got w
      go none k = absurd (never-some k)
      go (some reads) k = ap (λ x. candidates_at x w) (sym (some-injective _ _ k)) ∙ one reads (eqb row.kind 0) refl

  rows-keep : (rows : List Row) (got last : Gathered) (w : ℕ) → with_rows r b rows got ≡ some last → Leaves w rows → candidates_at last w ≡ candidates_at got w
  unfolding with_rows Every
  rows-keep [] got last w e h = ap (λ x. candidates_at x w) (sym (some-injective _ _ e))
  rows-keep (row ∷ rows) got last w e h = go (with_row r b got row) refl e (rows-keep rows)
    where
      go : (o : Option Gathered) → with_row r b got row ≡ o → ◌≡◌ {A = Option Gathered} (elim o [ none ↦ none | some next ↦ with_rows r b rows next ]) (some last)
          → ((got last : Gathered) (w : ℕ) → with_rows r b rows got ≡ some last → Leaves w rows → candidates_at last w ≡ candidates_at got w) → candidates_at last w ≡ candidates_at got w
      go none q k ih = absurd (never-some k)
      go (some next) q k ih = ih next last w k h.1 ∙ row-keeps got next row w q h.0

  -- ---- so the keys of a row are those of what is gathered in the end
  keys-same : (got last : Gathered) (row : Row) → Every (λ w. candidates_at last w ≡ candidates_at got w) (chosen_of row) → keys_from got row ≡ keys_from last row
  unfolding keys_from
  keys-same got last row h = ap choices (sym (map-alike (candidates_at last) (candidates_at got) (chosen_of row) h))

  -- the lists of keys that are all read
  keys-named : (c : ℕ) (keys : List (List ℕ)) (reads : List Read) → read_keys r c keys ≡ some reads → keys_read r c keys ≡ map (λ key. record { constraint = c; key = key }) keys
  unfolding keys_read read_keys
  keys-named c [] reads e = refl
  keys-named c (key ∷ keys) reads e = go (r.list c key) refl (read_keys r c keys) refl (keys-named c keys) e
    where
      go : (o : Option (List Entry)) → r.list c key ≡ o → (p : Option (List Read)) → read_keys r c keys ≡ p
          → ((reads : List Read) → read_keys r c keys ≡ some reads → keys_read r c keys ≡ map (λ key. record { constraint = c; key = key }) keys)
          → ◌≡◌ {A = Option (List Read)} (elim o [ none ↦ none | some l ↦ elim p [ none ↦ none | some reads ↦ some (record { key = key; entries = l } ∷ reads) ] ]) (some reads)
          → keys_read r c (key ∷ keys) ≡ map (λ key. record { constraint = c; key = key }) (key ∷ keys)
      go none q p z ih k = absurd (never-some k)
      go (some l) q none z ih k = absurd (never-some k)
      go (some l) q (some more) z ih k = rw (q, keys_read) (rw (ih more z))

  row-named : (got next : Gathered) (row : Row) → with_row r b got row ≡ some next → keys_read r row.constraint (keys_from got row) ≡ map (λ key. record { constraint = row.constraint; key = key }) (keys_from got row)
  unfolding with_row
  row-named got next row e = go (read_keys r row.constraint (keys_from got row)) refl e
    where
      go : (o : Option (List Read)) → read_keys r row.constraint (keys_from got row) ≡ o → after got row o ≡ some next
          → keys_read r row.constraint (keys_from got row) ≡ map (λ key. record { constraint = row.constraint; key = key }) (keys_from got row)
      go none q k = absurd (never-some k)
      go (some reads) q k = keys-named row.constraint (keys_from got row) reads q

  abbrev named_by : Gathered → Row → List ListRead
  named_by last row = map (λ key. record { constraint = row.constraint; key = key }) (keys_from last row)

  rows-named : (rows : List Row) (got last : Gathered) → with_rows r b rows got ≡ some last → Settled rows → lists_read r b rows got ≡ flat_map (named_by last) rows
  unfolding with_rows lists_read flat_map Settled
  rows-named [] got last e h = refl
  rows-named (row ∷ rows) got last e h = go (with_row r b got row) refl e (rows-named rows)
    where
      go : (o : Option Gathered) → with_row r b got row ≡ o → ◌≡◌ {A = Option Gathered} (elim o [ none ↦ none | some next ↦ with_rows r b rows next ]) (some last)
          → ((got last : Gathered) → with_rows r b rows got ≡ some last → Settled rows → lists_read r b rows got ≡ flat_map (named_by last) rows)
          → lists_read r b (row ∷ rows) got ≡ named_by last row ++ flat_map (named_by last) rows
      go none q k ih = absurd (never-some k)
      go (some next) q k ih =
          let whole : with_rows r b (row ∷ rows) got ≡ some last = rw (q, with_rows) k in
          let same = keys-same got last row (every-more (λ w. Leaves w (row ∷ rows)) (λ w. candidates_at last w ≡ candidates_at got w) (λ w l. rows-keep (row ∷ rows) got last w whole l) (chosen_of row) h.0) in
          rw (q, lists_read) (ap₂ ◌++◌ (row-named got next row q ∙ ap (map (λ key. record { constraint = row.constraint; key = key })) same) (ih next last k h.1))

-- where every list of the plan's rows is read, the lists read are those named
pub all-named : (constraints : List ℕ) {b : List ℕ} → RightPattern b → (r : Reader) (got last : Gathered) → with_rows r b (rows_of constraints b) got ≡ some last
    → lists_read r b (rows_of constraints b) got ≡ lists_named constraints b last
unfolding lists_named
all-named constraints {b} right r got last e = rows-named r b (rows_of constraints b) got last e (all-settled constraints right)
