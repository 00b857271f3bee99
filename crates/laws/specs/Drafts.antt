-- The draft of a store: its own nodes, edges and constraints, with no index. Assumes nothing.
use Rattle.std.specs.Prelude.{◌≡◌, true, ℕ, ◌+◌, ◌*◌, length}
use Rattle.std.proofs.Common.{sym, ap, ◌∙◌, arith, eq-eqb}
use mathlib.Core.List.{List, [], ◌++◌, flat_map, append-nil}
use Rattle.rules.specs.Words.{part}
use Rattle.rules.specs.Store.{node_count, edge_count, constraint_count, group_count, entry_count, groups_at, header_right, draft_right, header}
use Rattle.rules.specs.Lists.{sum}
use Rattle.rules.specs.Index.{group_bytes, entry_bytes, entry_total, store_of, draft_of}
use Rattle.laws.specs.Refusals.{graph_number}
use Rattle.laws.specs.Cases.{and-yes}
use Rattle.laws.specs.Header.{Limits, header-limits, header-ends}
use Rattle.laws.specs.Parts.{length-part}
use Rattle.laws.specs.Sections.{Alike, nodes-read, edges-read, constraints-read, groups-read, entries-read, header-right, body-read, graph_number-alike, store_of-alike, store-form}

module _ (s : List ℕ) (right : header_right s ≡ true) where
  limits : Limits s
  limits = header-limits s right

  -- nodes, edges and constraints have the bytes that the counts say
  pub body-length : length (part s 48 (groups_at s)) ≡ node_count s * 8 + edge_count s * 8 + constraint_count s * 12
  body-length = length-part s 48 (groups_at s) (omega (arith, header-ends s right)) ∙ omega arith

  -- the draft as a header and what stands under it
  draft-form : draft_of s ≡ header (node_count s) (edge_count s) (constraint_count s) 0 0 ++ part s 48 (groups_at s)
  unfolding draft_of group_bytes entry_bytes entry_total sum flat_map
  draft-form = store-form s [] right ∙ append-nil _ ∙ append-nil _

  -- it has the store's own nodes, edges and constraints
  pub draft-alike : Alike (draft_of s) s
  draft-alike =
      let n = node_count s in
      let m = edge_count s in
      let k = constraint_count s in
      let body = part s 48 (groups_at s) in
      let hn = limits.nodes in
      let hm = limits.edges in
      let hk = limits.constraints in
      let x : Alike (header n m k 0 0 ++ body) s =
      record {
        nodes = nodes-read n m k 0 0 hn hm hk (omega arith) (omega arith) body;
        edges = edges-read n m k 0 0 hn hm hk (omega arith) (omega arith) body;
        constraints = constraints-read n m k 0 0 hn hm hk (omega arith) (omega arith) body;
        body = body-read n m k 0 0 hn hm hk (omega arith) (omega arith) body body [] (sym (append-nil body)) body-length;
      } in
      rw draft-form x

  -- it has no groups and no entries
  pub draft-groups : group_count (draft_of s) ≡ 0
  draft-groups =
      ap (λ x. group_count x) draft-form
      ∙ groups-read (node_count s) (edge_count s) (constraint_count s) 0 0 limits.nodes limits.edges limits.constraints (omega arith) (omega arith) _

  pub draft-entries : entry_count (draft_of s) ≡ 0
  draft-entries =
      ap (λ x. entry_count x) draft-form
      ∙ entries-read (node_count s) (edge_count s) (constraint_count s) 0 0 limits.nodes limits.edges limits.constraints (omega arith) (omega arith) _

  -- its header is right for a draft
  draft-headed : header_right (draft_of s) ≡ true
  draft-headed =
      rw draft-form
      (header-right (node_count s) (edge_count s) (constraint_count s) 0 0 limits.nodes limits.edges limits.constraints (omega arith) (omega arith)
      (part s 48 (groups_at s)) (omega (arith, body-length)))

  pub draft-right : draft_right (draft_of s) ≡ true
  unfolding draft_right
  draft-right = and-yes _ _ draft-headed (and-yes _ _ (eq-eqb _ _ draft-groups) (eq-eqb _ _ draft-entries))

  -- the numbers 2, 3, 4 and 11 are the store's own
  pub draft-graph_number : graph_number (draft_of s) ≡ graph_number s
  draft-graph_number = graph_number-alike (draft_of s) s draft-alike

  -- building from the draft gives the bytes of the store's own nodes, edges, constraints and their index
  pub draft-store_of : store_of (draft_of s) ≡ store_of s
  draft-store_of = store_of-alike (draft_of s) s draft-alike
