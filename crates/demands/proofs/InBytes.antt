-- Of an admitted store the lists are what their bytes say, whatever the key: so two that have the same bytes are alike. Assumes nothing.
use native.Mathlib.Omega.{arith}
use Rattle.std.proofs.Math.Path.{◌≡◌, refl, ap}
use Rattle.std.proofs.Common.{sym, ◌∙◌}
use Rattle.std.specs.Prelude.{Bool, cond, ◌&&◌, List, [], ◌∷◌, map, ltb}
use Rattle.std.proofs.Math.Bool.{true, false}
use Rattle.std.proofs.Math.Option.{Option, some, none}
use Prim.Native.Nat.{ℕ, ◌+◌, ◌*◌, ◌/◌, ◌≤◌, ◌<◌}
use Rattle.std.proofs.Math.Dec.{eqb}
use Rattle.std.proofs.Math.ListN.{length, get_or}
use borrow.Author.Tests.{eqb-true, ltb-true, leb-true}
use Rattle.rules.specs.Words.{u32_at}
use Rattle.rules.specs.Lists.{range, has, choices}
use Rattle.rules.specs.Store.{node_part, constraint_part, group_part, entry_part, constraints_in, constraint_at, groups_in, labels_of, value_at}
use Rattle.rules.specs.Graph.{Graph, store_graph, labelled}
use Rattle.rules.specs.Index.{no_id, Group, entries_of, keys_of, groups_of, index_of, store_index, group_bytes}
use Rattle.rules.specs.Listing.{key_of, equals, low_of, found_at, found, inside, list_part, rule_broken, entry_list, read_found, reader_of}
use Rattle.rules.specs.declared.Constraint.{Constraint}
use Rattle.rules.specs.declared.Entry.{Entry}
use Rattle.rules.specs.Listing.{Found}
use Rattle.std.specs.Prelude.{Some, None}
use Rattle.laws.specs.Cases.{first-holds, second-holds, never-some}
use Rattle.laws.specs.Every.{Every, every-more, every-map, every-flat, every-kept, every-range, every-at}
use Rattle.laws.specs.Beside.{Beside, beside-length, beside-at}
use Rattle.laws.specs.Choices.{choices-beside}
use Rattle.laws.specs.KeyLists.{IsKey, labelled-has}
use Rattle.laws.specs.Places.{group_of, nonempty}
use Rattle.laws.specs.GroupBytes.{no_group, padded-three, GroupAt, group-at}
use Rattle.laws.specs.Lookup.{groups-counted}
use Rattle.laws.specs.Parts.{length-part, u32-part}
use Rattle.demands.specs.Numbers.{Sound}
use Rattle.demands.proofs.Index.{group-part, index-fits, sound-faithful}
use Rattle.demands.specs.Reads.{ListRead, store_reader, named, AlikeIn, found_bytes, bytes_read, entries_within, node_record, SameBytes}
use Rattle.demands.specs.InBytes.{OfKey}

-- ---- the groups of an index are groups of keys
keys-are : (g : Graph) (d : Constraint) → Every (IsKey g d) (keys_of g d)
unfolding keys_of
keys-are g d = every-more (Beside (λ l v. has v (labelled g l) ≡ true) (labels_of d)) (IsKey g d) one (choices (map (labelled g) (labels_of d))) (choices-beside (labelled g) (labels_of d))
  where
    one : (ids : List ℕ) → Beside (λ l v. has v (labelled g l) ≡ true) (labels_of d) ids → IsKey g d ids
    one ids h =
        let size = beside-length (λ l v. has v (labelled g l) ≡ true) (labels_of d) ids h in
        let tests : (j : ℕ) → j < length ids → (ltb (get_or ids j 0) g.size && eqb (g.label (get_or ids j 0)) (get_or (labels_of d) j 0)) ≡ true =
        λ j k. sym (labelled-has g (get_or (labels_of d) j 0) (get_or ids j 0)) ∙ beside-at (λ l v. has v (labelled g l) ≡ true) (labels_of d) ids h j k in
        record {
          size = size;
          nodes = λ j k. ltb-true (get_or ids j 0) g.size (first-holds (ltb (get_or ids j 0) g.size) (eqb (g.label (get_or ids j 0)) (get_or (labels_of d) j 0)) (tests j k));
          labels = λ j k. eqb-true (g.label (get_or ids j 0)) (get_or (labels_of d) j 0) (second-holds (ltb (get_or ids j 0) g.size) (eqb (g.label (get_or ids j 0)) (get_or (labels_of d) j 0)) (tests j k));
        }

index-keys : (g : Graph) (constraints : List ℕ) → Every (OfKey g constraints) (index_of g constraints)
unfolding index_of groups_of
index-keys g constraints =
    every-flat (OfKey g constraints) (λ c. c < constraints_in constraints) (λ c. groups_of g (constraint_at constraints c) c)
    (λ c l. every-kept (OfKey g constraints) nonempty (map (group_of g (constraint_at constraints c) c) (keys_of g (constraint_at constraints c)))
    (every-map (OfKey g constraints) (IsKey g (constraint_at constraints c)) (group_of g (constraint_at constraints c) c) (λ ids k. record { below = l; key = k })
    (keys_of g (constraint_at constraints c)) (keys-are g (constraint_at constraints c))))
    (range 0 (constraints_in constraints)) (every-range (constraints_in constraints) 0 (constraints_in constraints) (omega arith))

-- ---- any list that is found is fit
-- what a found list says
module _ (nodes : List ℕ) (d : Constraint) (entries : List ℕ) where
  count-is : (start count : ℕ) → rule_broken nodes d entries start count ≡ 0 → length (list_part entries start count) / 8 ≡ count
  unfolding rule_broken
  count-is start count h = go (inside entries start count) refl h
    where
      go : (t : Bool) → inside entries start count ≡ t → rule_broken nodes d entries start count ≡ 0 → length (list_part entries start count) / 8 ≡ count
      go true e k =
          let l : start + count ≤ length entries / 8 = unfold inside in leb-true _ _ e in
          let n = length-part entries (start * 8) (start * 8 + count * 8) (omega arith) in
          omega arith
      go false e k = let z : ◌≡◌ {A = ℕ} 1 0 = rw e at k in absurd (omega arith)

  told : (o : Found) (l : List Entry) → read_found nodes d entries o ≡ some l → read_found nodes d entries o ≡ some (entries_within (found_bytes entries o))
  unfolding read_found found_bytes
  told None l e = unfold entry_list range in refl
  told (Some at) l e = go (eqb (rule_broken nodes d entries at.start at.count) 0) refl e
    where
      go : (t : Bool) → eqb (rule_broken nodes d entries at.start at.count) 0 ≡ t
          → ◌≡◌ {A = Option (List Entry)} (cond t (some (entry_list (list_part entries at.start at.count) at.count)) none) (some l)
          → ◌≡◌ {A = Option (List Entry)} (cond t (some (entry_list (list_part entries at.start at.count) at.count)) none) (some (entry_list (list_part entries at.start at.count) (length (list_part entries at.start at.count) / 8)))
      go true q k = rw (count-is at.start at.count (eqb-true _ _ q))
      go false q k = absurd (never-some k)

-- the keys of two groups with the same words are the same
same-key : (groups : List ℕ) (c : ℕ) (ids : List ℕ) (i : ℕ) (x : Group) (at : ℕ) → GroupAt groups i x at → equals groups (key_of c ids) i ≡ true
    → (x.constraint ≡ c) × (key_of x.constraint x.key ≡ key_of c ids)
unfolding equals key_of
same-key groups c ids i x at r h =
    let a = eqb (u32_at groups (i * 24)) c in
    let e = eqb (u32_at groups (i * 24 + 4)) (get_or ids 0 no_id) in
    let f = eqb (u32_at groups (i * 24 + 8)) (get_or ids 1 no_id) in
    let z = eqb (u32_at groups (i * 24 + 12)) (get_or ids 2 no_id) in
    let three : (a && e && f) ≡ true = first-holds (a && e && f) z h in
    let two : (a && e) ≡ true = first-holds (a && e) f three in
    let c0 : u32_at groups (i * 24) ≡ c = eqb-true _ _ (first-holds a e two) in
    let c1 : u32_at groups (i * 24 + 4) ≡ get_or ids 0 no_id = eqb-true _ _ (second-holds a e two) in
    let c2 : u32_at groups (i * 24 + 8) ≡ get_or ids 1 no_id = eqb-true _ _ (second-holds (a && e) f three) in
    let c3 : u32_at groups (i * 24 + 12) ≡ get_or ids 2 no_id = eqb-true _ _ (second-holds (a && e && f) z h) in
    let w : u32_at groups (i * 24) ∷ u32_at groups (i * 24 + 4) ∷ u32_at groups (i * 24 + 8) ∷ u32_at groups (i * 24 + 12) ∷ []
    ≡ x.constraint ∷ get_or x.key 0 no_id ∷ get_or x.key 1 no_id ∷ get_or x.key 2 no_id ∷ [] = r.words ∙ ap (λ l. x.constraint ∷ l) (padded-three no_id x.key) in
    (cc, cc)

module _ (s : List ℕ) (sound : Sound s) where
  abbrev read : ℕ → List ℕ → Option (List Entry)
  read c ids = read_found (node_part s) (constraint_at (constraint_part s) c) (entry_part s) (found (group_part s) (key_of c ids))

  -- the list of a key is the graph's
  key-read : (c : ℕ) (ids : List ℕ) → c < constraints_in (constraint_part s) → IsKey (store_graph s) (constraint_at (constraint_part s) c) ids
      → read c ids ≡ some (entries_of (store_graph s) (constraint_at (constraint_part s) c) ids)
  unfolding reader_of
  key-read c ids below key = (sound-faithful s sound).list c ids below key

  own-keys : Every (OfKey (store_graph s) (constraint_part s)) (store_index s)
  unfolding store_index
  own-keys = index-keys (store_graph s) (constraint_part s)

  -- any key has a list that is given
  record Given (c : ℕ) (ids : List ℕ) : Type 0 where
    list : List Entry
    is : read c ids ≡ some list

  given : (c : ℕ) (ids : List ℕ) → Given c ids
  unfolding found found_at
  given c ids = go (ltb i (groups_in (group_part s)) && equals (group_part s) (key_of c ids) i) refl
    where
      i : ℕ
      i = low_of (group_part s) (key_of c ids)

      go : (t : Bool) → (ltb i (groups_in (group_part s)) && equals (group_part s) (key_of c ids) i) ≡ t → Given c ids
      go false e = record { list = []; is = unfold read_found in rw e }
      go true e =
          let index = store_index s in
          let near : i < groups_in (group_part s) = ltb-true _ _ (first-holds (ltb i (groups_in (group_part s))) (equals (group_part s) (key_of c ids) i) e) in
          let equal : equals (group_part s) (key_of c ids) i ≡ true = second-holds (ltb i (groups_in (group_part s))) (equals (group_part s) (key_of c ids) i) e in
          let size : groups_in (group_part s) ≡ length index = ap groups_in (group-part s sound) ∙ groups-counted index in
          let below : i < length index = omega arith in
          let fits = index-fits s sound in
          let r = group-at index 0 i fits.words (omega (arith, fits.few)) below in
          let k = same-key (group_bytes 0 index) c ids i (get_or index i no_group) _ r (ap (λ l. equals l (key_of c ids) i) (sym (group-part s sound)) ∙ equal) in
          let own = every-at (OfKey (store_graph s) (constraint_part s)) index i no_group own-keys below in
          let x = get_or index i no_group in
          let same = ap (λ o. read_found (node_part s) (constraint_at (constraint_part s) c) (entry_part s) (found (group_part s) o)) (sym k.1) in
          let by = ap (λ n. read_found (node_part s) (constraint_at (constraint_part s) n) (entry_part s) (found (group_part s) (key_of x.constraint x.key))) (sym k.0) in
          record { list = entries_of (store_graph s) (constraint_at (constraint_part s) x.constraint) x.key; is = same ∙ by ∙ key-read x.constraint x.key own.below own.key }

  -- so each list is what its bytes say
  pub list-told : (x : ListRead) → (store_reader s).list x.constraint x.key ≡ some (entries_within (bytes_read s x))
  unfolding reader_of
  list-told x = let g = given x.constraint x.key in told (node_part s) (constraint_at (constraint_part s) x.constraint) (entry_part s) (found (group_part s) (key_of x.constraint x.key)) g.list g.is

-- the value of a node stands in its record
value-in : (s : List ℕ) (v : ℕ) → u32_at (node_record s v) 4 ≡ value_at (node_part s) v
value-in s v = u32-part (node_part s) (v * 8) (v * 8 + 8) 4 (omega arith)

-- two admitted stores with the same bytes of a list, and of the records that it names, are alike in it
pub bytes-alike : (s t : List ℕ) → Sound s → Sound t → (x : ListRead) → SameBytes s t x → AlikeIn (store_reader s) (store_reader t) x
unfolding named reader_of
bytes-alike s t a b x same = record {
  list = list-told s a x ∙ ap (λ l. some (entries_within l)) same.bytes ∙ sym (list-told t b x);
  values = rw (list-told s a x)
      (every-more (λ e. node_record s e.node ≡ node_record t e.node) (λ e. value_at (node_part s) e.node ≡ value_at (node_part t) e.node)
      (λ e k. sym (value-in s e.node) ∙ ap (λ l. u32_at l 4) k ∙ value-in t e.node) (entries_within (bytes_read s x)) same.records);
}
