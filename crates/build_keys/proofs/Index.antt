-- The items of a pass over a right store are the groups of its index. Assumes nothing.
use native.Mathlib.Omega.{arith}
use native.Mathlib.Decide.{dec_le}
use mathlib.Core.Path.{◌≡◌, refl, sym, ap, ◌∙◌}
use mathlib.Core.Bool.{Bool, true, false, not, ◌&&◌, ◌||◌, true≢false}
use mathlib.Core.List.{List, [], ◌∷◌, ◌++◌, map, flat_map, map-append, map-map}
use Prim.Native.Nat.{ℕ, zero, suc, ◌+◌, ◌-◌, ◌≤◌, ◌<◌}
use lib.Dec.{eqb, ltb}
use lib.ListN.{length, length-map, length-append}
use borrow.Author.Tests.{le-ltb, lt-ltb, eq-eqb, ne_eqb, ltb-true}
use Rattle.rules.specs.Lists.{range, all_from, all, sum}
use Rattle.laws.specs.Strict.{Strict}
use Rattle.rules.specs.Store.{node_count, node_part, edge_part, constraint_part, edges_in, constraints_in, constraint_at, from_at, to_at, header_right, records_right, nodes_right, edges_right, edge_right, edge_alone, edge_before, constraints_right, constraint_right, constraint_alone, alike, most_groups, most_entries, nodes_in}
use Rattle.rules.specs.Graph.{Graph, graph_of, store_graph, neighbours, labelled}
use Rattle.rules.specs.Index.{too_large, some_exceeds, satisfies, groups_of, index_of, entry_total, store_index, exceeds, too_many, directions_of}
use Rattle.rules.specs.declared.Constraint.{Constraint}
use Rattle.rules.specs.declared.Entry.{Entry}
use Rattle.laws.specs.Cases.{first-holds, second-holds}
use Rattle.laws.specs.Header.{header-limits, header-ends}
use Rattle.laws.specs.Each.{all-each}
use Rattle.laws.specs.Parts.{nodes-in, edges-in, constraints-in}
use Rattle.build_edges.specs.Packed.{EdgesBelow, forward_words, word_in, labelled_in}
use Rattle.build_edges.specs.Sound.{joined_set, Sound}
use Rattle.build_neighbours.specs.Left.{labels_left}
use Rattle.build_groups.specs.Keyed.{keyed_from}
use Rattle.build_groups.specs.Emit.{Output, Gives, output_of, Placed}
use Rattle.build_keys.specs.Pass.{above_for, keyed_by, Right, nothing, passed}
use Rattle.build_groups.specs.declared.Deed.{Deed}
use Rattle.build_groups.specs.declared.Deed.TheVariants.{Count, Write, Compare}
use Rattle.build_groups.specs.declared.Purpose.{Purpose}
use Rattle.build_groups.specs.declared.Stopped.{Stopped}
use Rattle.build_groups.specs.declared.Tally.{Tally}
use Rattle.std.specs.Option.{MatchOption}
use Rattle.std.specs.declared.option.Option.{Option}
use Rattle.std.specs.Result.{result_ok}
use Rattle.std.specs.Prelude.{Result, Ok, Err, is_ok, is_err}
use Rattle.build_edges.proofs.Edges.{less-word, words-strict}
use Rattle.build_keys.proofs.Groups.{keyed_in, to_group, groups-of, satisfies-keyed}
use Rattle.build_keys.proofs.Graphs.{graph-joined, graph-labelled, labels-of}
use Rattle.build_keys.proofs.Items.{Item, item, list_in, total, emit_items, items_from, visited-items, group_for, count-fits, count-over}

sum-none : (a b : ℕ) → eqb (a + b) 0 ≡ (eqb a 0 && eqb b 0)
sum-none zero b = let e : zero + b ≡ b = omega arith in ap (λ n. eqb n 0) e
sum-none (suc a) b = ne_eqb (suc a + b) 0 (λ e. omega arith) ∙ sym (ap (λ t. t && eqb b 0) (ne_eqb (suc a) 0 (λ e. omega arith)))

-- ---- a store whose header and records are right
module _ (s : List ℕ) (header : header_right s ≡ true) where
  module _ (records : records_right (node_part s) (edge_part s) ≡ true) where
    each-edge : (i : ℕ) → i < edges_in (edge_part s) → edge_right (node_count s) (edge_part s) i ≡ true
    unfolding records_right edges_right
    each-edge i h =
        all-each (edge_right (node_count s) (edge_part s)) 0 (edges_in (edge_part s)) (rw (nodes-in s header) at (second-holds (nodes_right (node_part s)) (edges_right (nodes_in (node_part s)) (edge_part s)) records)) i (omega arith) (omega arith)

    pub both-ends : (i : ℕ) → i < edges_in (edge_part s) → (from_at (edge_part s) i < node_count s) × (to_at (edge_part s) i < node_count s)
    unfolding edge_right edge_alone
    both-ends i h =
        let a = ltb (from_at (edge_part s) i) (node_count s) in
        let b = ltb (to_at (edge_part s) i) (node_count s) in
        let c = not (eqb (from_at (edge_part s) i) (to_at (edge_part s) i)) in
        let both : (a && b) ≡ true = first-holds (a && b) c (first-holds (a && b && c) (eqb i 0 || edge_before (edge_part s) (i - 1) i) (each-edge i h)) in
        (ltb-true _ _ (first-holds a b both), ltb-true _ _ (second-holds a b both))

    ends-below : EdgesBelow (edge_part s)
    ends-below =
        let l = header-limits s header in
        record {
          from = λ i h. let e = (both-ends i h).0 in omega (arith, l.nodes);
          to = λ i h. let e = (both-ends i h).1 in omega (arith, l.nodes);
        }

    next-after : (i : ℕ) → i + 1 < edges_in (edge_part s) → edge_before (edge_part s) i (i + 1) ≡ true
    unfolding edge_right
    next-after i h =
        let one : i + 1 - 1 ≡ i = omega arith in
        let after = second-holds (edge_alone (node_count s) (edge_part s) (i + 1)) (eqb (i + 1) 0 || edge_before (edge_part s) (i + 1 - 1) (i + 1)) (each-edge (i + 1) h) in
        rw (ne_eqb (i + 1) 0 (λ e. omega arith), one) at after

    edges-ascend : Strict (forward_words (edge_part s))
    edges-ascend = words-strict (edge_part s) (λ i h. less-word (edge_part s) i (i + 1) (ends-below.to i (omega arith)) (next-after i h))

    pub sound : Sound s
    sound =
        let l = header-limits s header in
        let e = header-ends s header in
        record {
          long = omega arith;
          nodes = omega (arith, nodes-in s header, l.nodes);
          edges = omega (arith, edges-in s header, l.edges);
          constraints = omega (arith, constraints-in s header, l.constraints);
          below = ends-below;
          ascends = edges-ascend;
        }

-- ---- keys
pub keyed-any : (nodes edges : List ℕ) → EdgesBelow edges → (t : ℕ) (d : Constraint) → constraint_alone d ≡ true
    → keyed_from (word_in (joined_set edges)) (labelled_in nodes) t (labels_left d.first d.second d.third) [] (labelled_in nodes d.label) ≡ keyed_in (graph_of nodes edges) t d
unfolding keyed_in
keyed-any nodes edges below t d h =
    let g = graph_of nodes edges in
    ap (λ nb. keyed_from nb (labelled_in nodes) t (labels_left d.first d.second d.third) [] (labelled_in nodes d.label)) (graph-joined edges below nodes)
    ∙ ap (λ lab. keyed_from (λ u v. neighbours g v u) lab t (labels_left d.first d.second d.third) [] (lab d.label)) (graph-labelled nodes edges)
    ∙ ap (λ l. keyed_from (λ u v. neighbours g v u) (labelled g) t l [] (labelled g d.label)) (labels-of d h)

module _ (task : Purpose) (nodes edges : List ℕ) (below : EdgesBelow edges) where
  keyed-by : (d : Constraint) → constraint_alone d ≡ true → keyed_by task nodes (joined_set edges) d ≡ keyed_in (graph_of nodes edges) (above_for task d) d
  unfolding keyed_by
  keyed-by d h = keyed-any nodes edges below (above_for task d) d h

  above-zero : task.above_most ≡ false → (d : Constraint) → above_for task d ≡ 0
  unfolding above_for
  above-zero z d = rw z

  above-most : task.above_most ≡ true → (d : Constraint) → above_for task d ≡ d.most
  unfolding above_for
  above-most z d = rw z

  module _ (words store constraints : List ℕ) (right : (c : ℕ) → c < constraints_in constraints → constraint_alone (constraint_at constraints c) ≡ true) where
    abbrev items : ℕ → ℕ → List Item
    items k n = items_from task words store nodes (joined_set edges) constraints k n

    -- with all lists that are not empty, they are the groups
    pub items-groups : task.above_most ≡ false → (k n : ℕ) → k + n ≤ constraints_in constraints
        → map (group_for (graph_of nodes edges)) (items k n) ≡ flat_map (λ c. groups_of (graph_of nodes edges) (constraint_at constraints c) c) (range k n)
    unfolding range flat_map items_from group_for
    items-groups z k zero h = refl
    items-groups z k (suc n) h =
        let g = graph_of nodes edges in
        let d = constraint_at constraints k in
        let x = keyed_by task nodes (joined_set edges) d in
        let e : x ≡ keyed_in g 0 d = keyed-by d (right k (omega arith)) ∙ ap (λ t. keyed_in g t d) (above-zero z d) in
        map-append (group_for g) (map (item k) x) (items (k + 1) n)
        ∙ ap (λ l. l ++ map (group_for g) (items (k + 1) n)) (map-map (group_for g) (item k) x ∙ ap (map (to_group g k)) e ∙ sym (groups-of g d k))
        ∙ ap (λ l. groups_of g d k ++ l) (items-groups z (k + 1) n (omega arith))

    -- with lists above N alone, there are none where no list is
    pub items-none : task.above_most ≡ true → (k n : ℕ) → k + n ≤ constraints_in constraints
        → all (λ c. satisfies (graph_of nodes edges) (constraint_at constraints c)) (range k n) ≡ eqb (length (items k n)) 0
    unfolding range flat_map items_from all
    items-none z k zero h = refl
    items-none z k (suc n) h =
        let g = graph_of nodes edges in
        let d = constraint_at constraints k in
        let x = keyed_by task nodes (joined_set edges) d in
        let e : x ≡ keyed_in g d.most d = keyed-by d (right k (omega arith)) ∙ ap (λ t. keyed_in g t d) (above-most z d) in
        let one : satisfies g d ≡ eqb (length (map (item k) x)) 0 = satisfies-keyed g d ∙ ap (λ l. eqb (length l) 0) (sym e) ∙ ap (λ m. eqb m 0) (sym (length-map x (item k))) in
        ap (λ b. b && all (λ c. satisfies g (constraint_at constraints c)) (range (k + 1) n)) one
        ∙ ap (λ b. eqb (length (map (item k) x)) 0 && b) (items-none z (k + 1) n (omega arith))
        ∙ sym (ap (λ m. eqb m 0) (length-append (map (item k) x) (items (k + 1) n)) ∙ sum-none (length (map (item k) x)) (length (items (k + 1) n)))

pub total-groups : (g : Graph) (xs : List Item) → entry_total (map (group_for g) xs) ≡ total xs
unfolding entry_total sum total group_for to_group
total-groups g [] = refl
total-groups g (x ∷ xs) =
    let f : ℕ → Entry = λ v. record { node = v; directions = directions_of g x.keyed.key v } in
    ap (λ n. n + entry_total (map (group_for g) xs)) (length-map (list_in x) f) ∙ ap (λ n. length (list_in x) + n) (total-groups g xs)

-- ---- the whole of a right store
module _ {s : List ℕ} (right : Right s) where
  pub each-constraint : (c : ℕ) → c < constraints_in (constraint_part s) → constraint_alone (constraint_at (constraint_part s) c) ≡ true
  unfolding constraints_right constraint_right
  each-constraint c h =
      first-holds (constraint_alone (constraint_at (constraint_part s) c)) (all_from (λ d. not (alike (constraint_at (constraint_part s) d) (constraint_at (constraint_part s) c))) 0 c)
      (all-each (constraint_right (constraint_part s)) 0 (constraints_in (constraint_part s)) right.constraints c (omega arith) (omega arith))

  pub right-sound : Sound s
  right-sound = sound s right.header right.records

  module _ (task : Purpose) (store : List ℕ) where
    unfoldable pub items_of : List Item
    items_of = items_from task (forward_words (edge_part s)) store (node_part s) (joined_set (edge_part s)) (constraint_part s) 0 (constraints_in (constraint_part s))

    pub passed-items : (room : List ℕ) → passed task s store room ≡ emit_items task (forward_words (edge_part s)) store (output_of nothing room) items_of
    unfolding passed items_of
    passed-items room = visited-items task (forward_words (edge_part s)) store (node_part s) (joined_set (edge_part s)) (constraint_part s) (output_of nothing room)

    pub index-items : task.above_most ≡ false → map (group_for (store_graph s)) items_of ≡ store_index s
    unfolding store_index index_of store_graph items_of
    index-items z =
        items-groups task (node_part s) (edge_part s) right-sound.below (forward_words (edge_part s)) store (constraint_part s) each-constraint z 0 (constraints_in (constraint_part s)) (omega arith)

    pub exceeds-items : task.above_most ≡ true → exceeds s ≡ not (eqb (length items_of) 0)
    unfolding exceeds store_graph items_of some_exceeds
    exceeds-items z =
        ap not (items-none task (node_part s) (edge_part s) right-sound.below (forward_words (edge_part s)) store (constraint_part s) each-constraint z 0 (constraints_in (constraint_part s)) (omega arith))

    pub index-length : task.above_most ≡ false → length (store_index s) ≡ length items_of
    index-length z = ap length (sym (index-items z)) ∙ length-map items_of (group_for (store_graph s))

    pub index-total : task.above_most ≡ false → entry_total (store_index s) ≡ total items_of
    index-total z = ap entry_total (sym (index-items z)) ∙ total-groups (store_graph s) items_of

-- ---- counting
none-total : (xs : List Item) → length xs ≤ 0 → total xs ≡ 0
unfolding total
none-total [] h = refl
none-total (x ∷ xs) h = absurd (omega arith)

abbrev counts : Deed → Bool
counts Count = true
counts Write = false
counts Compare = false

abbrev writes : Deed → Bool
writes Count = false
writes Write = true
writes Compare = false

pub write-compare : Write ≡ Compare → ⊥
write-compare e = true≢false (ap writes e)

pub placed-count : (task : Purpose) (a b : ℕ) → task.deed ≡ Count → Placed task a b
placed-count task a b z = record { writes = λ o. absurd (true≢false (ap counts (sym z ∙ o))); reads = λ o. absurd (true≢false (ap counts (sym z ∙ o))) }

abbrev pub exceed_task : Purpose
exceed_task = record { deed = Count; above_most = true; groups = 0; entries = 1048576; table = 0; lists = 0 }

abbrev pub count_task : Purpose
count_task = record { deed = Count; above_most = false; groups = 262144; entries = 1048576; table = 0; lists = 0 }

-- whether a walk stopped, by what it gave
pub stopped-told : (r : Result Tally Stopped) (room : List ℕ) (s : Output) → Gives r room s → is_err r ≡ s.tally.stopped
stopped-told (Ok t) room s d = ap (λ x. x.tally.stopped) d
stopped-told (Err e) room s d = ap (λ x. x.tally.stopped) d

pub going-told : (r : Result Tally Stopped) (room : List ℕ) (s : Output) → Gives r room s → is_ok r ≡ not s.tally.stopped
going-told (Ok t) room s d = ap (λ x. not x.tally.stopped) d
going-told (Err e) room s d = ap (λ x. not x.tally.stopped) d

pub room-told : (r : Result Tally Stopped) (room : List ℕ) (s : Output) → Gives r room s → room ≡ s.room
room-told r room s d = ap (λ x. x.room) d

pub exceeds-told : {s : List ℕ} → Right s → (r : Result Tally Stopped) (room room' : List ℕ) → Gives r room' (passed exceed_task s s room) → is_err r ≡ exceeds s
exceeds-told {s} right r room room' e = go (dec_le (length xs) 0)
  where
    xs : List Item
    xs = items_of right exceed_task s

    words : List ℕ
    words = forward_words (edge_part s)

    e' : is_err r ≡ (emit_items exceed_task words s (output_of nothing room) xs).tally.stopped
    e' = stopped-told r room' (passed exceed_task s s room) e ∙ ap (λ x. x.tally.stopped) (passed-items right exceed_task s room)

    x : exceeds s ≡ not (eqb (length xs) 0)
    x = exceeds-items right exceed_task s refl

    go : Dec (length xs ≤ 0) → is_err r ≡ exceeds s
    go (yes h) =
        let t = none-total xs h in
        e' ∙ ap (λ y. y.tally.stopped) (count-fits exceed_task words s refl 0 0 room xs (omega arith) (omega arith)) ∙ sym (x ∙ ap not (eq-eqb (length xs) 0 (omega arith)))
    go (no h) =
        e' ∙ count-over exceed_task words s refl 0 0 room xs (omega arith) (omega arith) (λ a b. h (omega arith)) ∙ sym (x ∙ ap not (ne_eqb (length xs) 0 (λ z. h (omega arith))))

abbrev Counted : List ℕ → Option Tally → Type 0
Counted s r = MatchOption r (too_many s ≡ true) (λ t. (too_many s ≡ false) × ((t.groups ≡ length (store_index s)) × (t.entries ≡ entry_total (store_index s))))

-- a walk that has stopped, and one that has not, by what it came to
counted-by : (s : List ℕ) (r : Result Tally Stopped) (room : List ℕ) (o : Output) → Gives r room o → o.tally.stopped ≡ too_many s
    → (o.tally.stopped ≡ false → (o.tally.groups ≡ length (store_index s)) × (o.tally.entries ≡ entry_total (store_index s))) → Counted s (result_ok r)
counted-by s (Ok t) room o d h k =
    let e : false ≡ o.tally.stopped = ap (λ x. x.tally.stopped) d in
    let q = k (sym e) in
    (sym h ∙ sym e, (ap (λ x. x.tally.groups) d ∙ q.0, ap (λ x. x.tally.entries) d ∙ q.1))
counted-by s (Err e) room o d h k = sym h ∙ sym (ap (λ x. x.tally.stopped) d)

counts-told : {s : List ℕ} → Right s → (room : List ℕ) (o : Output) → o ≡ passed count_task s s room
    → (o.tally.stopped ≡ too_many s) × (o.tally.stopped ≡ false → (o.tally.groups ≡ length (store_index s)) × (o.tally.entries ≡ entry_total (store_index s)))
unfolding too_many too_large
counts-told {s} right room o e = go (dec_le (length xs) 262144) (dec_le (total xs) 1048576)
  where
    xs : List Item
    xs = items_of right count_task s

    words : List ℕ
    words = forward_words (edge_part s)

    e' : o ≡ emit_items count_task words s (output_of nothing room) xs
    e' = e ∙ passed-items right count_task s room

    n : length (store_index s) ≡ length xs
    n = index-length right count_task s refl

    m : entry_total (store_index s) ≡ total xs
    m = index-total right count_task s refl

    over : ((0 + length xs ≤ 262144) → (0 + total xs ≤ 1048576) → ⊥) → (ltb most_groups (length (store_index s)) || ltb most_entries (entry_total (store_index s))) ≡ true
        → (o.tally.stopped ≡ (ltb most_groups (length (store_index s)) || ltb most_entries (entry_total (store_index s)))) × (o.tally.stopped ≡ false → (o.tally.groups ≡ length (store_index s)) × (o.tally.entries ≡ entry_total (store_index s)))
    over f q =
        let st : o.tally.stopped ≡ true = ap (λ x. x.tally.stopped) e' ∙ count-over count_task words s refl 0 0 room xs (omega arith) (omega arith) f in
        (st ∙ sym q, λ z. absurd (true≢false (sym st ∙ z)))

    go : Dec (length xs ≤ 262144) → Dec (total xs ≤ 1048576)
        → (o.tally.stopped ≡ (ltb most_groups (length (store_index s)) || ltb most_entries (entry_total (store_index s)))) × (o.tally.stopped ≡ false → (o.tally.groups ≡ length (store_index s)) × (o.tally.entries ≡ entry_total (store_index s)))
    go (yes h) (yes k) =
        let f = e' ∙ count-fits count_task words s refl 0 0 room xs (omega arith) (omega arith) in
        let g : o.tally.groups ≡ 0 + length xs = ap (λ x. x.tally.groups) f in
        let t : o.tally.entries ≡ 0 + total xs = ap (λ x. x.tally.entries) f in (
          ap (λ x. x.tally.stopped) f ∙ sym (rw (le-ltb most_groups (length (store_index s)) (omega (arith, n)), le-ltb most_entries (entry_total (store_index s)) (omega (arith, m)))),
          λ z. (omega (arith, n), omega (arith, m)),
        )
    go (yes h) (no k) = over (λ a b. k (omega arith)) (rw (le-ltb most_groups (length (store_index s)) (omega (arith, n)), lt-ltb most_entries (entry_total (store_index s)) (omega (arith, m))))
    go (no h) k = over (λ a b. h (omega arith)) (rw (lt-ltb most_groups (length (store_index s)) (omega (arith, n))))

pub count-told : {s : List ℕ} → Right s → (r : Result Tally Stopped) (room room' : List ℕ) → Gives r room' (passed count_task s s room)
    → MatchOption (result_ok r) (too_many s ≡ true) (λ t. (too_many s ≡ false) × ((t.groups ≡ length (store_index s)) × (t.entries ≡ entry_total (store_index s))))
count-told {s} right r room room' d =
    let q = counts-told right room (passed count_task s s room) refl in
    counted-by s r room' (passed count_task s s room) d q.0 q.1
