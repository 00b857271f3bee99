-- What is known between the steps of building and admitting.
use Rattle.std.specs.Prelude.{ℕ, ◌+◌, ◌*◌, ◌≤◌, ◌<◌, ◌≡◌, Bool, true, false, not, ◌&&◌, List, [], ◌∷◌, length}
use Rattle.rules.specs.Store.{constraint_part, constraints_right, draft_right, edge_part, groups_at, most_entries, node_part, records_right}
use Rattle.rules.specs.Words.{part}
use Rattle.rules.specs.Index.{store_index, entry_total, group_bytes, entry_bytes}
use Rattle.rules.specs.Answers.{◌when◌, first_of, same}
use Rattle.build_keys.specs.Pass.{Right, AtHand, Laid}

-- it is told whether the index has too many entries; where it has not, they are arranged
pub record Settled (s joined : List ℕ) (many : Bool) : Type 0 where
  pub over : many ≡ true → most_entries < entry_total (store_index s)
  pub hand : many ≡ true → AtHand s joined
  pub laid : many ≡ false → Laid s joined

-- the number of refusal 2 or 3, 0 for neither
unfoldable pub record_number : List ℕ → ℕ
record_number s = first_of (2 when not (records_right (node_part s) (edge_part s)) ∷ 3 when not (constraints_right (constraint_part s)) ∷ [])

-- a draft whose store has so many groups and entries, and fits into n bytes
pub record Fitting (draft : List ℕ) (g e n : ℕ) : Type 0 where
  pub header : draft_right draft ≡ true
  pub right : Right draft
  pub groups : g ≡ length (store_index draft)
  pub entries : e ≡ entry_total (store_index draft)
  pub few_groups : g ≤ 262144
  pub few_entries : e ≤ 1048576
  pub fits : length draft + g * 24 + e * 8 ≤ n

-- the groups and entries that stand in a store are those of its index
unfoldable pub index_same : List ℕ → ℕ → ℕ → Bool
index_same s g e =
    same (part s (groups_at s) (groups_at s + g * 24)) (group_bytes 0 (store_index s))
    && same (part s (groups_at s + g * 24) (groups_at s + g * 24 + e * 8)) (entry_bytes (store_index s))
