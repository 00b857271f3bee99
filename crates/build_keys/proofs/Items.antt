-- All groups of a pass, as one list: counted, written and compared. Assumes nothing.
use native.Mathlib.Omega.{arith}
use native.Mathlib.Decide.{dec_le}
use native.Mathlib.Nat.{add-zero}
use mathlib.Core.Path.{◌≡◌, refl, sym, ap, ◌∙◌}
use mathlib.Core.Bool.{Bool, true, false, cond, and-false}
use mathlib.Core.List.{List, [], ◌∷◌, ◌++◌, map, flat_map}
use Prim.Native.Nat.{ℕ, zero, suc, ◌+◌, ◌*◌, ◌≤◌, ◌<◌}
use lib.Dec.{leb, ltb}
use lib.ListN.{length, length-map, length-append}
use borrow.Author.Tests.{le-leb, lt-leb, le-ltb, lt-ltb, leb-true}
use Rattle.rules.specs.Lists.{range, padded, all}
use Rattle.laws.specs.Loops.{fold_from}
use Rattle.rules.specs.Store.{constraints_in, constraint_at}
use Rattle.rules.specs.Words.{u32_bytes, encoded}
use Rattle.rules.specs.Graph.{Graph}
use Rattle.rules.specs.Index.{no_id, Group, directions_of, group_bytes, list_bytes, entry_bytes}
use Rattle.rules.specs.declared.Entry.{Entry}
use Rattle.laws.specs.Cases.{first-holds, second-holds}
use Rattle.build_edges.specs.Packed.{word_in}
use Rattle.build_groups.specs.Keyed.{Keyed}
use Rattle.build_groups.specs.Emit.{bits_of, dirs_of, group_record, entry_record, list_records, Output, output_of, within, counted, emit, emit_all}
use Rattle.build_keys.specs.Pass.{keyed_by, visited, visited_all}
use Rattle.build_groups.specs.declared.Deed.TheVariants.{Count}
use Rattle.build_groups.specs.declared.Purpose.{Purpose}
use Rattle.build_groups.specs.Emit.{Progress}
use Rattle.build_groups.proofs.Records.{length-records}
use Rattle.build_keys.proofs.Groups.{to_group}
use Rattle.build_groups.proofs.Emitting.{emit-stopped, emit-over, emit-count}

-- a constraint's number with one of its keys and its list
pub record Item : Type 0 where
  pub constraint : ℕ
  pub keyed : Keyed

abbrev pub item : ℕ → Keyed → Item
item c x = record { constraint = c; keyed = x }

abbrev pub list_in : Item → List ℕ
list_in x = x.keyed.list

abbrev pub ids_in : Item → List ℕ
ids_in x = padded no_id x.keyed.key

-- how many entries they have
unfoldable pub total : List Item → ℕ
total [] = 0
total (x ∷ xs) = length (list_in x) + total xs

module _ (task : Purpose) (words store : List ℕ) where
  unfoldable pub emit_items : Output → List Item → Output
  emit_items s [] = s
  emit_items s (x ∷ xs) = emit_items (emit task words store s x.constraint (ids_in x) (list_in x)) xs

  items-append : (s : Output) (xs ys : List Item) → emit_items s (xs ++ ys) ≡ emit_items (emit_items s xs) ys
  unfolding emit_items
  items-append s [] ys = refl
  items-append s (x ∷ xs) ys = items-append (emit task words store s x.constraint (ids_in x) (list_in x)) xs ys

  items-all : (c : ℕ) (s : Output) (xs : List Keyed) → emit_all task words store c s xs ≡ emit_items s (map (item c) xs)
  unfolding emit_all emit_items
  items-all c s [] = refl
  items-all c s (x ∷ xs) = items-all c (emit task words store s c (padded no_id x.key) x.list) xs

  module _ (nodes joined constraints : List ℕ) where
    -- all items, by constraint
    unfoldable pub items_from : ℕ → ℕ → List Item
    items_from k n = flat_map (λ c. map (item c) (keyed_by task nodes joined (constraint_at constraints c))) (range k n)

    fold-items : (k n : ℕ) (s : Output) → fold_from (visited task nodes joined words constraints store) k n s ≡ emit_items s (items_from k n)
    unfolding fold_from range flat_map emit_items items_from visited
    fold-items k zero s = refl
    fold-items k (suc n) s =
        let xs = map (item k) (keyed_by task nodes joined (constraint_at constraints k)) in
        fold-items (k + 1) n (visited task nodes joined words constraints store k s)
        ∙ ap (λ r. emit_items r (items_from (k + 1) n)) (items-all k s (keyed_by task nodes joined (constraint_at constraints k)))
        ∙ sym (items-append s xs (items_from (k + 1) n))

    pub visited-items : (s : Output) → visited_all task nodes joined words constraints store s ≡ emit_items s (items_from 0 (constraints_in constraints))
    unfolding visited_all
    visited-items s = fold-items 0 (constraints_in constraints) s

  pub items-stopped : (t : Progress) (room : List ℕ) (xs : List Item) → t.stopped ≡ true → emit_items (output_of t room) xs ≡ output_of t room
  unfolding emit_items
  items-stopped t room [] h = refl
  items-stopped t room (x ∷ xs) h = ap (λ s. emit_items s xs) (sym (emit-stopped task words store x.constraint (ids_in x) (list_in x) t room h)) ∙ items-stopped t room xs h

  -- one group more is within the bounds
  pub inside : (t : Progress) (n : ℕ) → t.groups < task.groups → t.entries + n ≤ task.entries → within task t n ≡ true
  unfolding within
  inside t n g e = rw (lt-ltb t.groups task.groups g, le-leb (t.entries + n) task.entries e)

  outside-groups : (t : Progress) (n : ℕ) → task.groups ≤ t.groups → within task t n ≡ false
  unfolding within
  outside-groups t n g = rw (le-ltb t.groups task.groups g)

  outside-entries : (t : Progress) (n : ℕ) → task.entries < t.entries + n → within task t n ≡ false
  unfolding within
  outside-entries t n e = rw (lt-leb (t.entries + n) task.entries e) (and-false (ltb t.groups task.groups))

  -- counting, where all are within the bounds
  module _ (deed : task.deed ≡ Count) where
    pub count-fits : (g e : ℕ) (room : List ℕ) (xs : List Item) → g + length xs ≤ task.groups → e + total xs ≤ task.entries
        → emit_items (output_of (record { groups = g; entries = e; stopped = false }) room) xs ≡ output_of (record { groups = g + length xs; entries = e + total xs; stopped = false }) room
    unfolding emit_items total
    count-fits g e room [] hg he = rw (add-zero, add-zero)
    count-fits g e room (x ∷ xs) hg he =
        let t : Progress = record { groups = g; entries = e; stopped = false } in
        let n = length (list_in x) in
        let w : within task t n ≡ true = inside t n (omega arith) (omega arith) in
        let one = emit-count task words store x.constraint (ids_in x) (list_in x) t room true refl (sym w) refl {t' = counted t n false} deed refl in
        let rest = count-fits (g + 1) (e + n) room xs (omega arith) (omega arith) in
        let eg : g + 1 + length xs ≡ g + suc (length xs) = omega arith in
        let ee : e + n + total xs ≡ e + (n + total xs) = omega arith in
        ap (λ s. emit_items s xs) (sym one) ∙ rest ∙ rw (eg, ee)

    pub count-over : (g e : ℕ) (room : List ℕ) (xs : List Item) → g ≤ task.groups → e ≤ task.entries → (g + length xs ≤ task.groups → e + total xs ≤ task.entries → ⊥)
        → (emit_items (output_of (record { groups = g; entries = e; stopped = false }) room) xs).tally.stopped ≡ true
    unfolding emit_items total
    count-over g e room [] hg he f = absurd (f (omega arith) (omega arith))
    count-over g e room (x ∷ xs) hg he f = go (dec_le (g + 1) task.groups) (dec_le (e + n) task.entries) (λ a b c. count-over (g + 1) (e + n) room xs a b c)
      where
        n : ℕ
        n = length (list_in x)

        t : Progress
        t = record { groups = g; entries = e; stopped = false }

        Goal : Type 0
        Goal = (emit_items (emit task words store (output_of t room) x.constraint (ids_in x) (list_in x)) xs).tally.stopped ≡ true

        stops : within task t n ≡ false → Goal
        stops w =
            let over = emit-over task words store x.constraint (ids_in x) (list_in x) t room false refl (sym w) refl in
            let u : Progress = record { groups = g; entries = e; stopped = true } in
            ap (λ s. (emit_items s xs).tally.stopped) (sym over) ∙ ap (λ s. s.tally.stopped) (items-stopped u room xs refl)

        go : Dec (g + 1 ≤ task.groups) → Dec (e + n ≤ task.entries)
            → (g + 1 ≤ task.groups → e + n ≤ task.entries → (g + 1 + length xs ≤ task.groups → e + n + total xs ≤ task.entries → ⊥)
            → (emit_items (output_of (record { groups = g + 1; entries = e + n; stopped = false }) room) xs).tally.stopped ≡ true) → Goal
        go (yes a) (yes b) ih =
            let w : within task t n ≡ true = inside t n (omega arith) b in
            let one = emit-count task words store x.constraint (ids_in x) (list_in x) t room true refl (sym w) refl {t' = counted t n false} deed refl in
            ap (λ s. (emit_items s xs).tally.stopped) (sym one) ∙ ih a b (λ p q. f (omega arith) (omega arith))
        go (yes a) (no b) ih = stops (outside-entries t n (omega arith))
        go (no a) b ih = stops (outside-groups t n (omega arith))

-- ---- what is written and compared, in the words of the rules
pub record Told (g : Graph) (words : List ℕ) : Type 0 where
  pub edges : word_in words ≡ g.edge

unfoldable pub group_for : Graph → Item → Group
group_for g x = to_group g x.constraint x.keyed

abbrev pub short : Item → Bool
short x = leb (length x.keyed.key) 3

module _ {g : Graph} {words : List ℕ} (told : Told g words) where
  bits-none : (v : ℕ) → bits_of words no_id v ≡ 0
  unfolding bits_of word_in
  bits-none v = rw (and-false (ltb v 65536))

  one-id : (u : ℕ) (ids : List ℕ) (v : ℕ) (n : ℕ) → dirs_of words ids v ≡ n → dirs_of words (u ∷ ids) v ≡ cond (g.edge u v) 1 0 + cond (g.edge v u) 2 0 + 4 * n
  unfolding dirs_of bits_of
  one-id u ids v n e = rw (e, told.edges)

  no-id : (ids : List ℕ) (v : ℕ) → dirs_of words ids v ≡ 0 → dirs_of words (no_id ∷ ids) v ≡ 0
  unfolding dirs_of
  no-id ids v e = rw (e, bits-none v)

  none-at-all : (v : ℕ) → dirs_of words [] v ≡ 0
  unfolding dirs_of
  none-at-all v = refl

  dirs-key : (key : List ℕ) (v : ℕ) → length key ≤ 3 → dirs_of words (padded no_id key) v ≡ directions_of g key v
  unfolding padded directions_of
  dirs-key [] v h = no-id (no_id ∷ no_id ∷ []) v (no-id (no_id ∷ []) v (no-id [] v (none-at-all v)))
  dirs-key (a ∷ []) v h = one-id a (no_id ∷ no_id ∷ []) v 0 (no-id (no_id ∷ []) v (no-id [] v (none-at-all v)))
  dirs-key (a ∷ b ∷ []) v h = one-id a (b ∷ no_id ∷ []) v _ (one-id b (no_id ∷ []) v 0 (no-id [] v (none-at-all v)))
  dirs-key (a ∷ b ∷ c ∷ []) v h = one-id a (b ∷ c ∷ []) v _ (one-id b (c ∷ []) v _ (one-id c [] v 0 (none-at-all v)))
  dirs-key (a ∷ b ∷ c ∷ d ∷ key) v h = absurd (omega arith)

  list-bytes : (key list : List ℕ) → length key ≤ 3 → list_records words (padded no_id key) list ≡ list_bytes (map (λ v. record { node = v; directions = directions_of g key v }) list)
  unfolding list_records list_bytes flat_map entry_record
  list-bytes key [] h = refl
  list-bytes key (v ∷ list) h = rw (dirs-key key v h) (ap (λ l. (u32_bytes v ++ directions_of g key v ∷ 0 ∷ 0 ∷ 0 ∷ []) ++ l) (list-bytes key list h))

  pub entry-bytes : (x : Item) (xs : List Item) → short x ≡ true → entry_bytes (map (group_for g) (x ∷ xs)) ≡ list_records words (ids_in x) (list_in x) ++ entry_bytes (map (group_for g) xs)
  unfolding entry_bytes flat_map group_for to_group
  entry-bytes x xs h = ap (λ l. l ++ entry_bytes (map (group_for g) xs)) (sym (list-bytes x.keyed.key (list_in x) (leb-true (length x.keyed.key) 3 h)))

pub length-ids : (c : ℕ) (key : List ℕ) (start n : ℕ) → length (group_record c (padded no_id key) start n) ≡ 24
unfolding group_record encoded padded
length-ids c [] start n = refl
length-ids c (a ∷ []) start n = refl
length-ids c (a ∷ b ∷ []) start n = refl
length-ids c (a ∷ b ∷ d ∷ key) start n = refl

module _ (g : Graph) where
  -- the first group, then the others
  pub group-bytes : (start : ℕ) (x : Item) (xs : List Item) → group_bytes start (map (group_for g) (x ∷ xs)) ≡ group_record x.constraint (ids_in x) start (length (list_in x)) ++ group_bytes (start + length (list_in x)) (map (group_for g) xs)
  unfolding group_bytes group_record group_for to_group
  group-bytes start x xs = let f : ℕ → Entry = λ v. record { node = v; directions = directions_of g x.keyed.key v } in rw (length-map (list_in x) f)

  pub length-groups : (start : ℕ) (xs : List Item) → length (group_bytes start (map (group_for g) xs)) ≡ length xs * 24
  unfolding group_bytes
  length-groups start [] = refl
  length-groups start (x ∷ xs) =
      let n = length (list_in x) in
      let r = group_record x.constraint (ids_in x) start n in
      let more = group_bytes (start + n) (map (group_for g) xs) in
      let a : length r ≡ 24 = length-ids x.constraint x.keyed.key start n in
      let b : length more ≡ length xs * 24 = length-groups (start + n) xs in
      let e : length (r ++ more) ≡ length r + length more = length-append r more in
      ap length (group-bytes start x xs) ∙ omega arith

module _ {g : Graph} {words : List ℕ} (told : Told g words) where
  pub length-entries : (xs : List Item) → all short xs ≡ true → length (entry_bytes (map (group_for g) xs)) ≡ total xs * 8
  unfolding entry_bytes flat_map total all
  length-entries [] h = refl
  length-entries (x ∷ xs) h =
      let r = list_records words (ids_in x) (list_in x) in
      let more = entry_bytes (map (group_for g) xs) in
      let a : length r ≡ length (list_in x) * 8 = length-records words (ids_in x) (list_in x) in
      let b : length more ≡ total xs * 8 = length-entries xs (second-holds (short x) (all short xs) h) in
      let e : length (r ++ more) ≡ length r + length more = length-append r more in
      ap length (entry-bytes told x xs (first-holds (short x) (all short xs) h)) ∙ omega arith
