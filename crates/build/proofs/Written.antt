-- The index of a right store, written into a room. Assumes nothing.
use native.Mathlib.Omega.{arith}
use native.Mathlib.Decide.{dec_le}
use mathlib.Core.Path.{◌≡◌, refl, ap, ◌∙◌}
use mathlib.Core.Bool.{Bool, true, false, ◌&&◌}
use mathlib.Core.List.{List, [], ◌∷◌, ◌++◌, map}
use Prim.Native.Nat.{ℕ, ◌+◌, ◌*◌, ◌≤◌}
use lib.Dec.{leb}
use lib.ListN.{length, length-append}
use borrow.Author.Tests.{le-leb}
use Rattle.rules.specs.Words.{over}
use Rattle.rules.specs.Lists.{range, all, keep}
use Rattle.rules.specs.Store.{edge_part, node_part, constraint_part, constraints_in, constraint_at}
use Rattle.rules.specs.Graph.{store_graph, graph_of}
use Rattle.rules.specs.Index.{group_bytes, entry_bytes, store_index, entry_total}
use Rattle.laws.specs.All.{all-flat}
use Rattle.build_edges.specs.Packed.{forward_words, word_in, labelled_in}
use Rattle.build_edges.specs.Sound.{joined_set}
use Rattle.build_neighbours.specs.Left.{labels_left}
use Rattle.build_groups.specs.Keyed.{Keyed, keyed_from}
use Rattle.build_groups.specs.Emit.{Gives, Placed}
use Rattle.build_keys.specs.Pass.{keyed_by, above_for, Right, passed}
use Rattle.build_groups.specs.declared.Deed.TheVariants.{Write}
use Rattle.build_groups.specs.declared.Purpose.{Purpose}
use Rattle.std.specs.Prelude.{Result}
use Rattle.build_groups.specs.declared.Stopped.{Stopped}
use Rattle.build_groups.specs.declared.Tally.{Tally}
use Rattle.build_keys.proofs.Going.{keyed-short, keyed-here, keyed-on}
use Rattle.build_keys.proofs.Passing.{labels-few}
use Rattle.build_keys.proofs.Graphs.{graph-edges}
use Rattle.build_keys.proofs.Items.{item, short, total, items_from, Told, group_for, length-groups, length-entries}
use Rattle.build_keys.proofs.Whole.{write-fits}
use Rattle.build_keys.proofs.Index.{items_of, passed-items, index-items, index-length, index-total, right-sound, write-compare, room-told}

-- no key has more than three ids
abbrev few : Keyed → Bool
few x = leb (length x.key) 3

module _ (nb : ℕ → ℕ → Bool) (lab : ℕ → List ℕ) (t : ℕ) where
  keys-few : (labels key list : List ℕ) → length key + length labels ≤ 3 → all few (keyed_from nb lab t labels key list) ≡ true
  unfolding all
  keys-few [] key list h = go (dec_le (length list) t)
    where
      go : Dec (length list ≤ t) → all few (keyed_from nb lab t [] key list) ≡ true
      go (yes q) = rw (keyed-short nb lab t [] key list q)
      go (no q) = rw (keyed-here nb lab t key list (omega arith), le-leb (length key) 3 (omega arith))
  keys-few (s ∷ labels) key list h = go (dec_le (length list) t) (λ u. keys-few labels (key ++ u ∷ []) (keep (nb u) list) (let l = length-append key (u ∷ []) in omega arith))
    where
      go : Dec (length list ≤ t) → ((u : ℕ) → all few (keyed_from nb lab t labels (key ++ u ∷ []) (keep (nb u) list)) ≡ true) → all few (keyed_from nb lab t (s ∷ labels) key list) ≡ true
      go (yes q) ih = rw (keyed-short nb lab t (s ∷ labels) key list q)
      go (no q) ih = rw (keyed-on nb lab t s labels key list (omega arith)) (all-flat few (λ u. keyed_from nb lab t labels (key ++ u ∷ []) (keep (nb u) list)) (lab s) (λ u _. ih u))

items-few : (c : ℕ) (xs : List Keyed) → all short (map (item c) xs) ≡ all few xs
unfolding all
items-few c [] = refl
items-few c (x ∷ xs) = ap (λ b. few x && b) (items-few c xs)

pub all-short : (task : Purpose) (words store nodes joined constraints : List ℕ) (k n : ℕ) → all short (items_from task words store nodes joined constraints k n) ≡ true
unfolding items_from keyed_by
all-short task words store nodes joined constraints k n =
    all-flat short (λ c. map (item c) (keyed_by task nodes joined (constraint_at constraints c))) (range k n)
    (λ c _.
    let d = constraint_at constraints c in
    let f = labels-few d.first d.second d.third in
    items-few c (keyed_by task nodes joined d)
    ∙ keys-few (word_in joined) (labelled_in nodes) (above_for task d) (labels_left d.first d.second d.third) [] (labelled_in nodes d.label) (omega arith))

-- ---- the index
abbrev pub write_task : ℕ → ℕ → ℕ → Purpose
write_task at g e = record { deed = Write; above_most = false; groups = g; entries = e; table = at; lists = at + g * 24 }

pub placed-write : (at g e a b : ℕ) → at + g * 24 + e * 8 ≤ b → Placed (write_task at g e) a b
placed-write at g e a b h = record { writes = λ o. record { table = omega arith; lists = omega arith }; reads = λ o. absurd (write-compare o) }

module _ {s : List ℕ} (right : Right s) where
  pub told : Told (store_graph s) (forward_words (edge_part s))
  unfolding store_graph graph_of
  told = record { edges = graph-edges (edge_part s) (right-sound right).below (right-sound right).ascends }

  pub index-written : (at g e : ℕ) (r : Result Tally Stopped) (room room' : List ℕ) → g ≡ length (store_index s) → e ≡ entry_total (store_index s) → at + g * 24 + e * 8 ≤ length room
      → Gives r room' (passed (write_task at g e) s s room)
      → room' ≡ over (over room at (group_bytes 0 (store_index s))) (at + g * 24) (entry_bytes (store_index s))
  unfolding items_of
  index-written at g e r room room' eg ee fits q =
      let task = write_task at g e in
      let words = forward_words (edge_part s) in
      let xs = items_of right task s in
      let n : length (store_index s) ≡ length xs = index-length right task s refl in
      let m : entry_total (store_index s) ≡ total xs = index-total right task s refl in
      let i : map (group_for (store_graph s)) xs ≡ store_index s = index-items right task s refl in
      let sh : all short xs ≡ true = all-short task words s (node_part s) (joined_set (edge_part s)) (constraint_part s) 0 (constraints_in (constraint_part s)) in
      let w = write-fits task told s refl (omega arith) 0 0 room xs sh (omega arith) (omega arith) (omega arith) in
      let a : at + 0 * 24 ≡ at = omega arith in
      let b : at + g * 24 + 0 * 8 ≡ at + g * 24 = omega arith in
      rw (i, a, b) at (room-told r room' (passed task s s room) q ∙ ap (λ x. x.room) (passed-items right task s room ∙ w))

  -- how long the groups and entries are
  pub index-lengths : (g e : ℕ) → g ≡ length (store_index s) → e ≡ entry_total (store_index s)
      → (length (group_bytes 0 (store_index s)) ≡ g * 24) × (length (entry_bytes (store_index s)) ≡ e * 8)
  unfolding items_of
  index-lengths g e eg ee =
      let task = write_task 0 0 0 in
      let xs = items_of right task s in
      let n : length (store_index s) ≡ length xs = index-length right task s refl in
      let m : entry_total (store_index s) ≡ total xs = index-total right task s refl in
      let i : map (group_for (store_graph s)) xs ≡ store_index s = index-items right task s refl in
      let sh : all short xs ≡ true = all-short task (forward_words (edge_part s)) s (node_part s) (joined_set (edge_part s)) (constraint_part s) 0 (constraints_in (constraint_part s)) in
      let a : length (group_bytes 0 (store_index s)) ≡ length xs * 24 = rw i at (length-groups (store_graph s) 0 xs) in
      let b : length (entry_bytes (store_index s)) ≡ total xs * 8 = rw i at (length-entries told xs sh) in
      (omega arith, omega arith)
