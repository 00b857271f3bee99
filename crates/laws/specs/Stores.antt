-- The store that building gives: a header, the same nodes, edges and constraints, and the index. Assumes nothing.
use Rattle.std.specs.Prelude.{◌≡◌, true, List, ◌++◌, ℕ, ◌+◌, ◌*◌}
use Rattle.std.proofs.Math.Path.{refl}
use Rattle.std.proofs.Common.{◌∙◌, append_assoc, arith, length-append}
use Rattle.std.proofs.Math.ListN.{length}
use Rattle.rules.specs.Words.{part}
use Rattle.rules.specs.Store.{node_count, edge_count, constraint_count, groups_at, header_right, header}
use Rattle.rules.specs.Index.{group_bytes, entry_bytes, entry_total, store_index, store_of}
use Rattle.laws.specs.Refusals.{graph_number}
use Rattle.laws.specs.Header.{header-limits}
use Rattle.laws.specs.Sections.{Alike, nodes-read, edges-read, constraints-read, header-right, body-read, few-groups, few-entries, store-form}
use Rattle.laws.specs.GroupBytes.{entry-length, group-length}
use Rattle.laws.specs.Drafts.{body-length}

-- the store as a header and what stands under it
pub store-split : (d : List ℕ) → header_right d ≡ true
    → store_of d
    ≡ header (node_count d) (edge_count d) (constraint_count d) (length (store_index d)) (entry_total (store_index d))
    ++ (part d 48 (groups_at d) ++ (group_bytes 0 (store_index d) ++ entry_bytes (store_index d)))
unfolding store_of
store-split d right = store-form d (store_index d) right ∙ simp append_assoc

-- the store built from bytes with a right header, where none of 2, 3, 4 and 11 is given
module _ (d : List ℕ) (right : header_right d ≡ true) (fine : graph_number d ≡ 0) where
  index-bytes : List ℕ
  index-bytes = group_bytes 0 (store_index d) ++ entry_bytes (store_index d)

  -- it has the same nodes, edges and constraints
  pub store-alike : Alike (store_of d) d
  unfolding index-bytes
  store-alike =
      let n = node_count d in
      let m = edge_count d in
      let k = constraint_count d in
      let g = length (store_index d) in
      let e = entry_total (store_index d) in
      let body = part d 48 (groups_at d) in
      let hn = (header-limits d right).nodes in
      let hm = (header-limits d right).edges in
      let hk = (header-limits d right).constraints in
      let hg = few-groups d fine in
      let he = few-entries d fine in
      let x : Alike (header n m k g e ++ (body ++ index-bytes)) d =
      record {
        nodes = nodes-read n m k g e hn hm hk hg he (body ++ index-bytes);
        edges = edges-read n m k g e hn hm hk hg he (body ++ index-bytes);
        constraints = constraints-read n m k g e hn hm hk hg he (body ++ index-bytes);
        body = body-read n m k g e hn hm hk hg he (body ++ index-bytes) body index-bytes refl (body-length d right);
      } in
      rw (store-split d right) x

  -- and its header is right
  pub store-right : header_right (store_of d) ≡ true
  store-right =
      let g = group_bytes 0 (store_index d) in
      let e = entry_bytes (store_index d) in
      let body = part d 48 (groups_at d) in
      let fills : length (body ++ (g ++ e))
      ≡ node_count d * 8 + edge_count d * 8 + constraint_count d * 12 + length (store_index d) * 24 + entry_total (store_index d) * 8 =
      length-append body (g ++ e)
      ∙ omega (arith, length-append g e, body-length d right, group-length 0 (store_index d), entry-length (store_index d)) in
      rw (store-split d right)
      (header-right (node_count d) (edge_count d) (constraint_count d) (length (store_index d)) (entry_total (store_index d))
      (header-limits d right).nodes (header-limits d right).edges (header-limits d right).constraints (few-groups d fine) (few-entries d fine) (body ++ (g ++ e)) fills)
