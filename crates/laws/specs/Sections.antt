-- Bytes under a header that fits them, and what two runs of bytes with the same nodes, edges and constraints have in common. Assumes nothing.
use Rattle.std.specs.Prelude.{◌≡◌, refl, true, List, [], ◌∷◌, ◌++◌, ℕ, ◌+◌, ◌-◌, ◌*◌, ◌≤◌, ltb, take, drop}
use Rattle.std.proofs.Math.Path.{sym}
use Rattle.std.proofs.Common.{ap, ◌∙◌, append_assoc, take_at, drop_at, eq-eqb, le-leb, ltb-false}
use native.Mathlib.Omega.{arith}
use Rattle.std.proofs.Math.ListN.{length, length-append}
use Rattle.rules.specs.Words.{u32_at, part}
use Rattle.rules.specs.Store.{most_nodes, most_edges, most_constraints, most_groups, most_entries, node_count, edge_count, constraint_count, group_count, entry_count, edges_at, constraints_at, groups_at, entries_at, end_at, counts_right, offsets_right, words_right, header_right, header, node_part, edge_part, constraint_part, records_right}
use Rattle.rules.specs.Graph.{store_graph}
use Rattle.rules.specs.Index.{Group, group_bytes, entry_bytes, store_index, entry_total, exceeds, too_large, too_many, store_with, store_of}
use Rattle.laws.specs.Refusals.{graph_number, graph-zero}
use Rattle.laws.specs.Cases.{and-yes, or-first, or-second}
use Rattle.laws.specs.Parts.{part-part, part-add, nodes-in, edges-in, constraints-in}
use Rattle.laws.specs.Words.{Words, words-read, length-encoded}

pub header-length : (n m k g e : ℕ) → length (header n m k g e) ≡ 48
unfolding header
header-length n m k g e = length-encoded _

-- ---- bytes under a header with counts within their limits
module _ (n m k g e : ℕ) (hn : n ≤ most_nodes) (hm : m ≤ most_edges) (hk : k ≤ most_constraints) (hg : g ≤ most_groups) (he : e ≤ most_entries) (rest : List ℕ) where
  words-small :
      Words
      (1 ∷ n ∷ m ∷ k ∷ g ∷ e
      ∷ 48 ∷ (48 + n * 8) ∷ (48 + n * 8 + m * 8) ∷ (48 + n * 8 + m * 8 + k * 12)
      ∷ (48 + n * 8 + m * 8 + k * 12 + g * 24) ∷ (48 + n * 8 + m * 8 + k * 12 + g * 24 + e * 8) ∷ [])
  unfolding Words
  words-small =
      (omega arith, (omega arith, (omega arith, (omega arith, (omega arith, (omega arith, (omega arith, (omega arith, (omega arith, (omega arith, (omega arith, (omega arith, tt))))))))))))

  format-read : u32_at (header n m k g e ++ rest) 0 ≡ 1
  unfolding header
  format-read = words-read _ rest 0 words-small (omega arith)

  -- the counts are read back
  pub nodes-read : node_count (header n m k g e ++ rest) ≡ n
  unfolding header
  nodes-read = words-read _ rest 1 words-small (omega arith)

  pub edges-read : edge_count (header n m k g e ++ rest) ≡ m
  unfolding header
  edges-read = words-read _ rest 2 words-small (omega arith)

  pub constraints-read : constraint_count (header n m k g e ++ rest) ≡ k
  unfolding header
  constraints-read = words-read _ rest 3 words-small (omega arith)

  pub groups-read : group_count (header n m k g e ++ rest) ≡ g
  unfolding header
  groups-read = words-read _ rest 4 words-small (omega arith)

  pub entries-read : entry_count (header n m k g e ++ rest) ≡ e
  unfolding header
  entries-read = words-read _ rest 5 words-small (omega arith)

  first-read : u32_at (header n m k g e ++ rest) 24 ≡ 48
  unfolding header
  first-read = words-read _ rest 6 words-small (omega arith)

  second-read : u32_at (header n m k g e ++ rest) 28 ≡ 48 + n * 8
  unfolding header
  second-read = words-read _ rest 7 words-small (omega arith)

  third-read : u32_at (header n m k g e ++ rest) 32 ≡ 48 + n * 8 + m * 8
  unfolding header
  third-read = words-read _ rest 8 words-small (omega arith)

  fourth-read : u32_at (header n m k g e ++ rest) 36 ≡ 48 + n * 8 + m * 8 + k * 12
  unfolding header
  fourth-read = words-read _ rest 9 words-small (omega arith)

  fifth-read : u32_at (header n m k g e ++ rest) 40 ≡ 48 + n * 8 + m * 8 + k * 12 + g * 24
  unfolding header
  fifth-read = words-read _ rest 10 words-small (omega arith)

  total-read : u32_at (header n m k g e ++ rest) 44 ≡ 48 + n * 8 + m * 8 + k * 12 + g * 24 + e * 8
  unfolding header
  total-read = words-read _ rest 11 words-small (omega arith)

  counts-hold : counts_right (header n m k g e ++ rest) ≡ true
  unfolding counts_right
  counts-hold =
      let s = header n m k g e ++ rest in
      let ln : node_count s ≤ most_nodes = rw nodes-read hn in
      let lm : edge_count s ≤ most_edges = rw edges-read hm in
      let lk : constraint_count s ≤ most_constraints = rw constraints-read hk in
      let lg : group_count s ≤ most_groups = rw groups-read hg in
      let le : entry_count s ≤ most_entries = rw entries-read he in
      and-yes _ _
      (and-yes _ _ (and-yes _ _ (and-yes _ _ (le-leb _ _ ln) (le-leb _ _ lm)) (le-leb _ _ lk)) (le-leb _ _ lg))
      (le-leb _ _ le)

  offsets-hold : offsets_right (header n m k g e ++ rest) ≡ true
  unfolding offsets_right
  offsets-hold =
      let s = header n m k g e ++ rest in
      let two : u32_at s 28 ≡ edges_at s = rw nodes-read second-read in
      let three : u32_at s 32 ≡ constraints_at s = rw (nodes-read, edges-read) third-read in
      let four : u32_at s 36 ≡ groups_at s = rw (nodes-read, edges-read, constraints-read) fourth-read in
      let five : u32_at s 40 ≡ entries_at s = rw (nodes-read, edges-read, constraints-read, groups-read) fifth-read in
      let six : u32_at s 44 ≡ end_at s = rw (nodes-read, edges-read, constraints-read, groups-read, entries-read) total-read in
      and-yes _ _
      (and-yes _ _
      (and-yes _ _ (and-yes _ _ (and-yes _ _ (eq-eqb _ _ first-read) (eq-eqb _ _ two)) (eq-eqb _ _ three)) (eq-eqb _ _ four))
      (eq-eqb _ _ five))
      (eq-eqb _ _ six)

  -- a header with counts within their limits is right where the sections have just the bytes that it says
  pub header-right : length rest ≡ n * 8 + m * 8 + k * 12 + g * 24 + e * 8 → header_right (header n m k g e ++ rest) ≡ true
  unfolding header_right words_right
  header-right fills =
      let whole : length (header n m k g e ++ rest) ≡ 48 + n * 8 + m * 8 + k * 12 + g * 24 + e * 8 =
      length-append (header n m k g e) rest ∙ omega (arith, header-length n m k g e) in
      let long : 48 ≤ length (header n m k g e ++ rest) = omega arith in
      and-yes _ _
      (le-leb _ _ long)
      (and-yes _ _
      (and-yes _ _ (and-yes _ _ (eq-eqb _ _ format-read) counts-hold) offsets-hold)
      (eq-eqb _ _ (total-read ∙ sym whole)))

  -- nodes, edges and constraints under a header are the front of what stands under it
  pub body-read : (body tail : List ℕ) → rest ≡ body ++ tail → length body ≡ n * 8 + m * 8 + k * 12
      → part (header n m k g e ++ rest) 48 (groups_at (header n m k g e ++ rest)) ≡ body
  body-read body tail split l =
      let size : groups_at (header n m k g e ++ rest) - 48 ≡ length body = omega (arith, nodes-read, edges-read, constraints-read) in
      ap (λ x. take x (drop 48 (header n m k g e ++ rest))) size
      ∙ ap (take (length body)) (drop_at (header n m k g e) rest 48 (header-length n m k g e) ∙ split)
      ∙ take_at body tail (length body) refl

-- ---- the same nodes, edges and constraints
pub record Alike (a b : List ℕ) : Type 0 where
  pub nodes : node_count a ≡ node_count b
  pub edges : edge_count a ≡ edge_count b
  pub constraints : constraint_count a ≡ constraint_count b
  pub body : part a 48 (groups_at a) ≡ part b 48 (groups_at b)

module _ (s : List ℕ) where
  node-body : node_part s ≡ part (part s 48 (groups_at s)) 0 (node_count s * 8)
  node-body = sym (part-part s 48 (groups_at s) 0 (node_count s * 8) (omega arith) (omega arith))

  edge-body : edge_part s ≡ part (part s 48 (groups_at s)) (node_count s * 8) (node_count s * 8 + edge_count s * 8)
  edge-body =
      let ends : 48 + (node_count s * 8 + edge_count s * 8) ≡ constraints_at s = omega arith in
      sym
      (part-part s 48 (groups_at s) (node_count s * 8) (node_count s * 8 + edge_count s * 8) (omega arith) (omega arith)
      ∙ ap (part s (edges_at s)) ends)

  constraint-body : constraint_part s
      ≡ part (part s 48 (groups_at s)) (node_count s * 8 + edge_count s * 8) (node_count s * 8 + edge_count s * 8 + constraint_count s * 12)
  constraint-body =
      let at = node_count s * 8 + edge_count s * 8 in
      let end = at + constraint_count s * 12 in
      let starts : 48 + at ≡ constraints_at s = omega arith in
      let ends : 48 + end ≡ groups_at s = omega arith in
      sym
      (part-part s 48 (groups_at s) at end (omega arith) (omega arith)
      ∙ ap (λ x. part s x (48 + end)) starts
      ∙ ap (part s (constraints_at s)) ends)

-- where none of 2, 3, 4 and 11 is given, groups and entries are within their limits
pub few-groups : (s : List ℕ) → graph_number s ≡ 0 → length (store_index s) ≤ most_groups
unfolding too_many too_large
few-groups s q = ltb-false _ _ (or-first _ (ltb most_entries (entry_total (store_index s))) (graph-zero s q).few)

pub few-entries : (s : List ℕ) → graph_number s ≡ 0 → entry_total (store_index s) ≤ most_entries
unfolding too_many too_large
few-entries s q = ltb-false _ _ (or-second (ltb most_groups (length (store_index s))) _ (graph-zero s q).few)

module _ (a b : List ℕ) (x : Alike a b) where
  pub nodes-alike : node_part a ≡ node_part b
  nodes-alike =
      node-body a
      ∙ ap (λ p. part p 0 (node_count a * 8)) x.body
      ∙ ap (λ n. part (part b 48 (groups_at b)) 0 (n * 8)) x.nodes
      ∙ sym (node-body b)

  pub edges-alike : edge_part a ≡ edge_part b
  edges-alike =
      edge-body a
      ∙ ap (λ p. part p (node_count a * 8) (node_count a * 8 + edge_count a * 8)) x.body
      ∙ ap (λ n. part (part b 48 (groups_at b)) (n * 8) (n * 8 + edge_count a * 8)) x.nodes
      ∙ ap (λ m. part (part b 48 (groups_at b)) (node_count b * 8) (node_count b * 8 + m * 8)) x.edges
      ∙ sym (edge-body b)

  pub constraints-alike : constraint_part a ≡ constraint_part b
  constraints-alike =
      constraint-body a
      ∙ ap (λ p. part p (node_count a * 8 + edge_count a * 8) (node_count a * 8 + edge_count a * 8 + constraint_count a * 12)) x.body
      ∙ ap (λ n. part (part b 48 (groups_at b)) (n * 8 + edge_count a * 8) (n * 8 + edge_count a * 8 + constraint_count a * 12)) x.nodes
      ∙ ap (λ m. part (part b 48 (groups_at b)) (node_count b * 8 + m * 8) (node_count b * 8 + m * 8 + constraint_count a * 12)) x.edges
      ∙ ap (λ k. part (part b 48 (groups_at b)) (node_count b * 8 + edge_count b * 8) (node_count b * 8 + edge_count b * 8 + k * 12)) x.constraints
      ∙ sym (constraint-body b)

  pub graph-alike : store_graph a ≡ store_graph b
  unfolding store_graph
  graph-alike = cc (nodes-alike, edges-alike)

  pub index-alike : store_index a ≡ store_index b
  unfolding store_index
  index-alike = cc (graph-alike, constraints-alike)

  pub records-alike : records_right (node_part a) (edge_part a) ≡ records_right (node_part b) (edge_part b)
  records-alike = cc (nodes-alike, edges-alike)

  pub exceeds-alike : exceeds a ≡ exceeds b
  unfolding exceeds
  exceeds-alike = cc (graph-alike, constraints-alike)

  pub too_many-alike : too_many a ≡ too_many b
  unfolding too_many
  too_many-alike = rw index-alike

  pub graph_number-alike : graph_number a ≡ graph_number b
  unfolding graph_number
  graph_number-alike = rw (records-alike, constraints-alike, exceeds-alike, too_many-alike)

  -- building from either gives the same bytes
  pub store_of-alike : store_of a ≡ store_of b
  unfolding store_of
  store_of-alike = cc (nodes-alike, edges-alike, constraints-alike, index-alike)

-- ---- the bytes of a store with groups of its own, where its header is right
-- nodes, edges and constraints stand one behind the other
pub body-parts : (s : List ℕ) → node_part s ++ edge_part s ++ constraint_part s ≡ part s 48 (groups_at s)
body-parts s =
    let n = node_count s * 8 in
    let m = edge_count s * 8 in
    let k = constraint_count s * 12 in
    let at : 48 + (n + m) ≡ constraints_at s = omega arith in
    let end : 48 + (n + m + k) ≡ groups_at s = omega arith in
    let rest : part s 48 (48 + (n + m + k)) ≡ part s 48 (constraints_at s) ++ constraint_part s = rw at at (part-add s 48 (n + m) k) in
    ap (λ p. p ++ constraint_part s) (sym (part-add s 48 n m) ∙ ap (part s 48) at) ∙ sym rest ∙ ap (part s 48) end

pub store-form : (s : List ℕ) (groups : List Group) → header_right s ≡ true
    → store_with (node_part s) (edge_part s) (constraint_part s) groups
    ≡ header (node_count s) (edge_count s) (constraint_count s) (length groups) (entry_total groups)
    ++ part s 48 (groups_at s) ++ group_bytes 0 groups ++ entry_bytes groups
unfolding store_with
store-form s groups right =
    let h = header (node_count s) (edge_count s) (constraint_count s) (length groups) (entry_total groups) in
    rw (nodes-in s right, edges-in s right, constraints-in s right)
    (ap (λ x. x ++ group_bytes 0 groups ++ entry_bytes groups)
    (ap (λ x. x ++ constraint_part s) (append_assoc h (node_part s) (edge_part s))
    ∙ append_assoc h (node_part s ++ edge_part s) (constraint_part s) ∙ ap (λ x. h ++ x) (body-parts s)))
