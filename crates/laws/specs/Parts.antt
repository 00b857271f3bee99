-- Reading through the parts of a store is reading through the whole, and a right header says how long each part is. Assumes nothing.
use Rattle.std.specs.Prelude.{◌≡◌, true, List, [], ◌∷◌, ◌++◌, ℕ, zero, suc, ◌+◌, ◌-◌, ◌*◌, ◌≤◌, ◌<◌, length, get_or, take, drop}
use Rattle.std.proofs.Common.{sym, ap, ◌∙◌, add-zero, zero-add, add_assoc, arith, length-take, length-drop, get_or-take, get_or-drop, take-take, drop-drop, take-add, drop_at, length-take-le}
use Rattle.std.proofs.Math.Nat.{sub-zero, zero-sub}
use Rattle.std.proofs.Math.Seq.{take-nil, drop-nil}
use Rattle.rules.specs.Words.{u32_at, part}
use Rattle.rules.specs.Store.{from_at, to_at, node_count, edge_count, constraint_count, group_count, entry_count, edges_at, constraints_at, groups_at, entries_at, end_at, node_part, edge_part, constraint_part, group_part, entry_part, nodes_in, edges_in, constraints_in, groups_in, entries_in, header_right}
use Rattle.laws.specs.Header.{header-ends}
use Rattle.rules.specs.declared.Edge.{Edge}

-- an edge's ends
abbrev pub edge_record : List ℕ → ℕ → Edge
edge_record edges i = record { from = from_at edges i; to = to_at edges i }

-- the parts before and after the edge section; the first has the header and the nodes
abbrev pub before_edges : List ℕ → List ℕ
before_edges s = part s 0 (edges_at s)

abbrev pub after_edges : List ℕ → List ℕ
after_edges s = part s (constraints_at s) (end_at s)

-- the sections, found in these two parts
abbrev pub nodes_before : List ℕ → List ℕ
nodes_before before = part before 48 (edges_at before)

abbrev pub constraints_after : List ℕ → List ℕ → List ℕ
constraints_after before after = part after 0 (constraint_count before * 12)

abbrev pub groups_after : List ℕ → List ℕ → List ℕ
groups_after before after = part after (constraint_count before * 12) (constraint_count before * 12 + group_count before * 24)

abbrev pub entries_after : List ℕ → List ℕ → List ℕ
entries_after before after =
    part after (constraint_count before * 12 + group_count before * 24) (constraint_count before * 12 + group_count before * 24 + entry_count before * 8)

-- ---- any part of any bytes
pub length-part : (s : List ℕ) (a e : ℕ) → e ≤ length s → length (part s a e) ≡ e - a
length-part s a e h = simp (length-take, length-drop) (omega arith)

pub get-part : (s : List ℕ) (a e i : ℕ) → a + i < e → get_or (part s a e) i 0 ≡ get_or s (a + i) 0
get-part s a e i h =
    let inside : i < e - a = omega arith in
    get_or-take (e - a) (drop a s) i 0 inside ∙ get_or-drop a s i 0

-- a part that ends within the front of w is a part of that front
pub part-front : (w : List ℕ) (base a e : ℕ) → a ≤ e → e ≤ base → base ≤ length w → part (take base w) a e ≡ part w a e
part-front w base a e h k l =
    let m : a + (base - a) ≡ base = omega arith in
    let f : take base w ≡ take a w ++ take (base - a) (drop a w) = rw m at (take-add a (base - a) w) in
    let g : drop a (take base w) ≡ take (base - a) (drop a w) = ap (drop a) f ∙ drop_at (take a w) (take (base - a) (drop a w)) a (length-take-le a w (omega arith)) in
    ap (take (e - a)) g ∙ take-take (e - a) (base - a) (drop a w) (omega arith)

-- two parts, the second just behind the first, are one
pub part-add : (s : List ℕ) (a m k : ℕ) → part s a (a + (m + k)) ≡ part s a (a + m) ++ part s (a + m) (a + m + k)
part-add s a m k =
    let x : a + (m + k) - a ≡ m + k = omega arith in
    let y : a + m - a ≡ m = omega arith in
    let z : a + m + k - (a + m) ≡ k = omega arith in
    rw (x, y, z, ← drop-drop) (take-add m k (drop a s))

pub u32-part : (s : List ℕ) (a e i : ℕ) → a + i + 4 ≤ e → u32_at (part s a e) i ≡ u32_at s (a + i)
unfolding u32_at
u32-part s a e i h =
    rw (get-part s a e i (omega arith), get-part s a e (i + 1) (omega arith), get-part s a e (i + 2) (omega arith), get-part s a e (i + 3) (omega arith))
    (simp add_assoc)

drop-take : (b n : ℕ) (l : List ℕ) → drop b (take n l) ≡ take (n - b) (drop b l)
drop-take zero n l = rw sub-zero
drop-take (suc b) zero l = rw zero-sub (sym (drop-nil (suc b)))
drop-take (suc b) (suc n) [] = sym (take-nil (suc n - suc b))
drop-take (suc b) (suc n) (x ∷ l) =
    let e : suc n - suc b ≡ n - b = omega arith in
    drop-take b n l ∙ rw e

-- a part of a part is a part of the whole
pub part-part : (s : List ℕ) (a e b f : ℕ) → a + f ≤ e → b ≤ f → part (part s a e) b f ≡ part s (a + b) (a + f)
part-part s a e b f h o =
    let left : f - b ≤ e - a - b = omega arith in
    let size : f - b ≡ (a + f) - (a + b) = omega arith in
    rw (drop-take b (e - a) (drop a s), drop-drop, take-take _ _ _ left, size)

-- ---- the parts before and after the edges: the counts and the sections found in them are the store's own
module _ (s : List ℕ) where
  before-word : (i : ℕ) → i + 4 ≤ 48 → u32_at (before_edges s) i ≡ u32_at s i
  before-word i h = u32-part s 0 (edges_at s) i (omega arith) ∙ rw zero-add

  pub before-nodes : node_count (before_edges s) ≡ node_count s
  before-nodes = before-word 4 (omega arith)

  pub before-edges : edge_count (before_edges s) ≡ edge_count s
  before-edges = before-word 8 (omega arith)

  pub before-constraints : constraint_count (before_edges s) ≡ constraint_count s
  before-constraints = before-word 12 (omega arith)

  pub before-groups : group_count (before_edges s) ≡ group_count s
  before-groups = before-word 16 (omega arith)

  pub before-entries : entry_count (before_edges s) ≡ entry_count s
  before-entries = before-word 20 (omega arith)

  pub nodes-before : nodes_before (before_edges s) ≡ node_part s
  nodes-before =
      ap (λ n. part (before_edges s) 48 (48 + n * 8)) before-nodes
      ∙ part-part s 0 (edges_at s) 48 (edges_at s) (omega arith) (omega arith)
      ∙ rw zero-add

  pub constraints-after : constraints_after (before_edges s) (after_edges s) ≡ constraint_part s
  constraints-after =
      ap (λ k. part (after_edges s) 0 (k * 12)) before-constraints
      ∙ part-part s (constraints_at s) (end_at s) 0 (constraint_count s * 12) (omega arith) (omega arith)
      ∙ rw add-zero

  pub groups-after : groups_after (before_edges s) (after_edges s) ≡ group_part s
  groups-after =
      let at = constraint_count s * 12 in
      let end = at + group_count s * 24 in
      let ends : constraints_at s + end ≡ entries_at s = omega arith in
      ap (λ k. part (after_edges s) (k * 12) (k * 12 + group_count (before_edges s) * 24)) before-constraints
      ∙ ap (λ g. part (after_edges s) at (at + g * 24)) before-groups
      ∙ part-part s (constraints_at s) (end_at s) at end (omega arith) (omega arith)
      ∙ ap (part s (groups_at s)) ends

  pub entries-after : entries_after (before_edges s) (after_edges s) ≡ entry_part s
  entries-after =
      let k = constraint_count s * 12 in
      let at = k + group_count s * 24 in
      let end = at + entry_count s * 8 in
      let starts : constraints_at s + at ≡ entries_at s = omega arith in
      let ends : constraints_at s + end ≡ end_at s = omega arith in
      ap (λ k. part (after_edges s) (k * 12 + group_count (before_edges s) * 24) (k * 12 + group_count (before_edges s) * 24 + entry_count (before_edges s) * 8)) before-constraints
      ∙ ap (λ g. part (after_edges s) (k + g * 24) (k + g * 24 + entry_count (before_edges s) * 8)) before-groups
      ∙ ap (λ e. part (after_edges s) at (at + e * 8)) before-entries
      ∙ part-part s (constraints_at s) (end_at s) at end (omega arith) (omega arith)
      ∙ ap (λ a. part s a (constraints_at s + end)) starts
      ∙ ap (part s (entries_at s)) ends

-- ---- how long the parts are, and how many records each section has
module _ (s : List ℕ) (right : header_right s ≡ true) where
  length-of : (a e : ℕ) → e ≤ end_at s → length (part s a e) ≡ e - a
  length-of a e h = length-part s a e (omega (arith, header-ends s right))

  pub before-length : length (before_edges s) ≡ edges_at s
  before-length = length-of 0 (edges_at s) (omega arith) ∙ omega arith

  pub after-length : length (after_edges s) ≡ constraint_count s * 12 + group_count s * 24 + entry_count s * 8
  after-length = length-of (constraints_at s) (end_at s) (omega arith) ∙ omega arith

  pub nodes-length : length (node_part s) ≡ node_count s * 8
  nodes-length = length-of 48 (edges_at s) (omega arith) ∙ omega arith

  pub edges-length : length (edge_part s) ≡ edge_count s * 8
  edges-length = length-of (edges_at s) (constraints_at s) (omega arith) ∙ omega arith

  pub constraints-length : length (constraint_part s) ≡ constraint_count s * 12
  constraints-length = length-of (constraints_at s) (groups_at s) (omega arith) ∙ omega arith

  pub groups-length : length (group_part s) ≡ group_count s * 24
  groups-length = length-of (groups_at s) (entries_at s) (omega arith) ∙ omega arith

  pub entries-length : length (entry_part s) ≡ entry_count s * 8
  entries-length = length-of (entries_at s) (end_at s) (omega arith) ∙ omega arith

  pub nodes-in : nodes_in (node_part s) ≡ node_count s
  nodes-in = omega (arith, nodes-length)

  pub edges-in : edges_in (edge_part s) ≡ edge_count s
  edges-in = omega (arith, edges-length)

  pub constraints-in : constraints_in (constraint_part s) ≡ constraint_count s
  constraints-in = omega (arith, constraints-length)

  pub groups-in : groups_in (group_part s) ≡ group_count s
  groups-in = omega (arith, groups-length)

  pub entries-in : entries_in (entry_part s) ≡ entry_count s
  entries-in = omega (arith, entries-length)
