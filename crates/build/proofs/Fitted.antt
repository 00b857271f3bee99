-- What is known of a draft that is counted with number 0. Assumes nothing.
use native.Mathlib.Omega.{arith}
use mathlib.Core.Path.{◌≡◌, sym, ◌∙◌}
use mathlib.Core.Bool.{true}
use mathlib.Core.List.{List}
use Prim.Native.Nat.{ℕ, ◌+◌, ◌*◌, ◌≤◌, ◌<◌}
use lib.ListN.{length}
use Rattle.rules.specs.Store.{draft_right, groups_at}
use Rattle.rules.specs.Index.{store_index, entry_total, store_of}
use Rattle.laws.specs.Refusals.{graph_number}
use Rattle.laws.specs.Header.{draft-header, header-limits}
use Rattle.build_keys.specs.Pass.{Right}
use Rattle.build.specs.Steps.{Fitting}
use Rattle.laws.specs.Sections.{few-groups, few-entries}
use Rattle.build.proofs.Written.{index-lengths}
use Rattle.build.proofs.Built.{store-length, draft-ends}

module _ (draft : List ℕ) (header : draft_right draft ≡ true) (right : Right draft) (n g e : ℕ) (en : n ≡ graph_number draft) (z : n ≡ 0)
    (counts : n ≡ 0 → (g ≡ length (store_index draft)) × (e ≡ entry_total (store_index draft))) where
  pub fitting : (size : ℕ) → length draft + g * 24 + e * 8 ≤ size → Fitting draft g e size
  fitting size fits =
      let groups-few = few-groups draft (sym en ∙ z) in
      let entries-few = few-entries draft (sym en ∙ z) in
      let c = counts z in
      record {
        header = header;
        right = right;
        groups = c.0;
        entries = c.1;
        few_groups = omega (arith, groups-few, c.0);
        few_entries = omega (arith, entries-few, c.1);
        fits = fits;
      }

  -- the same once the counts are those of the index (Built has it for any counts that are given)
  pub whole-length : length (store_of draft) ≡ length draft + g * 24 + e * 8
  whole-length =
      let c = counts z in
      let l = index-lengths right g e c.0 c.1 in
      store-length draft g e header c.0 c.1 l.0 l.1

  pub small : length draft + g * 24 + e * 8 < 4294967296
  small =
      let c = counts z in
      let groups-few = few-groups draft (sym en ∙ z) in
      let entries-few = few-entries draft (sym en ∙ z) in
      let l = index-lengths right g e c.0 c.1 in
      let ends : groups_at draft ≡ length draft = draft-ends draft g e header c.0 c.1 l.0 l.1 in
      let lim = header-limits draft (draft-header draft header) in
      let a = lim.nodes in
      let b = lim.edges in
      let k = lim.constraints in
      omega (arith, groups-few, entries-few, c.0, c.1)
