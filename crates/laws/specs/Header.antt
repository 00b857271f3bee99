-- What a right header says of the counts and of the length of the store. Assumes nothing.
use Rattle.std.specs.Prelude.{◌≡◌, Bool, false, not, ◌&&◌, ℕ, ◌≤◌, List, leb}
use Rattle.std.proofs.Math.Path.{sym}
use Rattle.std.proofs.Common.{◌∙◌, arith}
use Rattle.std.proofs.Math.Bool.{true}
use Rattle.std.proofs.Math.Dec.{eqb}
use Rattle.std.proofs.Math.ListN.{length}
use borrow.Author.Tests.{eqb-true, leb-true, not-false}
use Rattle.rules.specs.Words.{u32_at}
use Rattle.rules.specs.Store.{most_nodes, most_edges, most_constraints, most_groups, most_entries, node_count, edge_count, constraint_count, group_count, entry_count, edges_at, constraints_at, groups_at, entries_at, end_at, counts_right, offsets_right, words_right, header_right, draft_right}
use Rattle.laws.specs.Cases.{first-holds, second-holds}

-- the counts are within their limits
pub record Limits (s : List ℕ) : Type 0 where
  pub nodes : node_count s ≤ most_nodes
  pub edges : edge_count s ≤ most_edges
  pub constraints : constraint_count s ≤ most_constraints
  pub groups : group_count s ≤ most_groups
  pub entries : entry_count s ≤ most_entries

counts-limits : (s : List ℕ) → counts_right s ≡ true → Limits s
unfolding counts_right
counts-limits s right =
    let n = leb (node_count s) most_nodes in
    let m = leb (edge_count s) most_edges in
    let k = leb (constraint_count s) most_constraints in
    let g = leb (group_count s) most_groups in
    let e = leb (entry_count s) most_entries in
    let four : (n && m && k && g) ≡ true = first-holds (n && m && k && g) e right in
    let three : (n && m && k) ≡ true = first-holds (n && m && k) g four in
    let two : (n && m) ≡ true = first-holds (n && m) k three in
    record {
      nodes = leb-true _ _ (first-holds n m two);
      edges = leb-true _ _ (second-holds n m two);
      constraints = leb-true _ _ (second-holds (n && m) k three);
      groups = leb-true _ _ (second-holds (n && m && k) g four);
      entries = leb-true _ _ (second-holds (n && m && k && g) e right);
    }

module _ (s : List ℕ) (right : header_right s ≡ true) where
  words-hold : words_right s ≡ true
  unfolding header_right
  words-hold = second-holds (leb 48 (length s)) (words_right s) right

  -- there is room for the header
  pub header-long : 48 ≤ length s
  unfolding header_right
  header-long = leb-true _ _ (first-holds (leb 48 (length s)) (words_right s) right)

  pub header-limits : Limits s
  unfolding words_right
  header-limits =
      let format = eqb (u32_at s 0) 1 in
      let counts = counts_right s in
      let offsets = offsets_right s in
      let total = eqb (u32_at s 44) (length s) in
      let front : (format && counts && offsets) ≡ true = first-holds (format && counts && offsets) total words-hold in
      counts-limits s (second-holds format counts (first-holds (format && counts) offsets front))

  -- the sections fill the store
  pub header-ends : end_at s ≡ length s
  unfolding words_right offsets_right
  header-ends =
      let own = eqb (u32_at s 0) 1 && counts_right s in
      let offsets = offsets_right s in
      let total = eqb (u32_at s 44) (length s) in
      let starts =
      eqb (u32_at s 24) 48 && eqb (u32_at s 28) (edges_at s) && eqb (u32_at s 32) (constraints_at s)
      && eqb (u32_at s 36) (groups_at s) && eqb (u32_at s 40) (entries_at s) in
      let whole : u32_at s 44 ≡ length s = eqb-true _ _ (second-holds (own && offsets) total words-hold) in
      let forced : u32_at s 44 ≡ end_at s =
      eqb-true _ _ (second-holds starts (eqb (u32_at s 44) (end_at s)) (second-holds own offsets (first-holds (own && offsets) total words-hold))) in
      sym forced ∙ whole

-- a draft's header is right
pub draft-header : (s : List ℕ) → draft_right s ≡ true → header_right s ≡ true
unfolding draft_right
draft-header s right = first-holds (header_right s) (eqb (group_count s) 0 && eqb (entry_count s) 0) right

-- a draft has no groups and no entries
pub draft-bare : (s : List ℕ) → draft_right s ≡ true → (group_count s ≡ 0) × (entry_count s ≡ 0)
unfolding draft_right
draft-bare s right =
    let g = eqb (group_count s) 0 in
    let e = eqb (entry_count s) 0 in
    let both : (g && e) ≡ true = second-holds (header_right s) (g && e) right in
    (eqb-true _ _ (first-holds g e both), eqb-true _ _ (second-holds g e both))

-- what the functions that lend a part ask, as a caller that tested the header has it: r is what the test gave
module _ (s : List ℕ) (r : Bool) (q : r ≡ header_right s) (passed : not r ≡ false) where
  pub passed-header : header_right s ≡ true
  passed-header = sym q ∙ not-false r passed

  pub passed-long : 48 ≤ length s
  passed-long = header-long s passed-header

  pub passed-nodes : edges_at s ≤ length s
  passed-nodes = omega (arith, header-ends s passed-header)

  pub passed-constraints : groups_at s ≤ length s
  passed-constraints = omega (arith, header-ends s passed-header)

  pub passed-entries : end_at s ≤ length s
  passed-entries = omega (arith, header-ends s passed-header)
