-- For an admitted store the lists that the reader reads are the graph's lists. Assumes nothing.
use Rattle.std.specs.Prelude.{◌≡◌, Bool, ◌&&◌, ℕ, ◌+◌, ◌*◌, ◌≤◌, ◌<◌}
use Rattle.std.proofs.Math.Path.{refl, ap}
use Rattle.std.proofs.Common.{sym, ◌∙◌, arith, length-append}
use Rattle.std.proofs.Math.Bool.{true, false}
use mathlib.Core.List.{List, [], ◌∷◌, ◌++◌, map, append_assoc, append-nil}
use Rattle.std.proofs.Math.Option.{some}
use Rattle.std.proofs.Math.Dec.{ltb, leb, eqb}
use Rattle.std.proofs.Math.ListN.{length}
use borrow.Author.Tests.{eqb-true, lt-ltb, le-leb, leb-true, ltb-true, not-false}
use Rattle.rules.specs.Words.{part}
use Rattle.rules.specs.Lists.{range, all, keep, sum}
use Rattle.rules.specs.Store.{most_constraints, most_nodes, node_count, edge_count, constraint_count, group_count, entry_count, groups_at, entries_at, header, node_part, edge_part, constraint_part, group_part, entry_part, nodes_in, constraints_in, entries_in, constraint_at, labels_of}
use Rattle.rules.specs.Graph.{Graph, graph_of, store_graph, labelled}
use Rattle.rules.specs.Index.{some_exceeds, Group, keys_of, list_of, entries_of, groups_of, index_of, satisfies, store_index, group_bytes, list_bytes, entry_bytes, entry_total, exceeds}
use Rattle.rules.specs.Listing.{reader_of, read_found, found, key_of, inside, list_part, entry_list, rule_broken}
use Rattle.rules.specs.declared.Constraint.{Constraint}
use Rattle.rules.specs.declared.Entry.{Entry}
use Rattle.std.specs.Prelude.{Some, None}
use Rattle.laws.specs.Cases.{and-yes, first-holds, second-holds}
use Rattle.laws.specs.Header.{Limits, header-limits}
use Rattle.laws.specs.All.{all-append, all-map, all-map-by, all-flat-by, all-kept, all-has}
use Rattle.laws.specs.Parts.{nodes-in, constraints-in}
use Rattle.laws.specs.KeyLists.{IsKey, labelled-has}
use Rattle.laws.specs.Refusals.{graph-zero}
use Rattle.laws.specs.Sections.{header-length, groups-read, entries-read, few-groups, few-entries}
use Rattle.laws.specs.GroupBytes.{group-length, entry-length, small, are_words, list-part, list-read, part-middle}
use Rattle.laws.specs.Range.{has-range}
use Rattle.laws.specs.Places.{ahead, Cut, Around, key-around, key-cut, number-cut, group_of, nonempty}
use Rattle.laws.specs.Lookup.{Fits, found-own, found-none}
use Rattle.laws.specs.Choices.{choices-all}
use Rattle.laws.specs.Sums.{sum-both}
use Rattle.demands.specs.Faithful.{Faithful}
use Rattle.demands.specs.Numbers.{Sound}
use Rattle.laws.specs.Drafts.{body-length}
use Rattle.laws.specs.Stores.{store-split}
use Rattle.demands.proofs.Fit.{entry-number, small-entries, list-fit}

-- ---- the words of an index
-- where there are few nodes and constraints, constraint and ids of each group are words
index-words : (g : Graph) (constraints : List ℕ) → g.size ≤ most_nodes → constraints_in constraints ≤ most_constraints → all are_words (index_of g constraints) ≡ true
unfolding index_of groups_of keys_of
index-words g constraints few least =
    all-flat-by small are_words (λ c. groups_of g (constraint_at constraints c) c) (range 0 (constraints_in constraints)) (λ c h. own c h (constraint_at constraints c)) numbers
  where
    numbers : all small (range 0 (constraints_in constraints)) ≡ true
    numbers =
        all-has small (range 0 (constraints_in constraints))
        (λ c h. let k : c < 0 + constraints_in constraints = ltb-true _ _ (sym (has-range c 0 (constraints_in constraints) (omega arith)) ∙ h) in lt-ltb c 4294967296 (omega arith))

    nodes : (l : ℕ) → all small (labelled g l) ≡ true
    nodes l =
        all-has small (labelled g l)
        (λ v h. let k : v < g.size = ltb-true _ _ (first-holds (ltb v g.size) (eqb (g.label v) l) (sym (labelled-has g l v) ∙ h)) in lt-ltb v 4294967296 (omega arith))

    own : (c : ℕ) → small c ≡ true → (d : Constraint) → all are_words (groups_of g d c) ≡ true
    own c h d =
        all-kept nonempty are_words (map (group_of g d c) (keys_of g d))
        (all-map-by (all small) are_words (group_of g d c) (keys_of g d) (λ k e. and-yes (small c) (all small k) h e)
        (choices-all small (map (labelled g) (labels_of d)) (all-map (all small) (labelled g) (labels_of d) nodes)))

-- ---- how many entries
total-append : (xs ys : List Group) → entry_total (xs ++ ys) ≡ entry_total xs + entry_total ys
unfolding entry_total
total-append = sum-both (λ x. length x.entries)

total-more : (x : Group) (xs : List Group) → entry_total (x ∷ xs) ≡ length x.entries + entry_total xs
unfolding entry_total sum
total-more x xs = refl

-- a list of the index lies inside the entries
inside-index : {index : List Group} (before : List Group) (x : Group) (after : List Group) (n : ℕ) → index ≡ before ++ x ∷ after → length x.entries ≡ n
    → inside (entry_bytes index) (entry_total before) n ≡ true
unfolding inside
inside-index {index} before x after n whole e =
    let total : entry_total index ≡ entry_total before + entry_total (x ∷ after) = ap entry_total whole ∙ total-append before (x ∷ after) in
    le-leb (entry_total before + n) (entries_in (entry_bytes index)) (omega (arith, entry-length index, total-more x after))

-- what holds of every element holds of the one that stands here
all-cut : {A : Type 0} (p : A → Bool) (less : A → A → Bool) (x : A) (l : List A) → Cut less x l → all p l ≡ true → p x ≡ true
unfolding all
all-cut p less x l k h =
    let both : (all p k.before && (p x && all p k.after)) ≡ true = sym (all-append p k.before (x ∷ k.after)) ∙ rw k.whole at h in
    first-holds (p x) (all p k.after) (second-holds (all p k.before) (p x && all p k.after) both)

-- ---- the lists of the graph of nodes and edges, read from the bytes of its index
module _ (nodes edges constraints : List ℕ) (few : nodes_in nodes ≤ most_nodes) (fits : Fits (index_of (graph_of nodes edges) constraints)) where
  abbrev g : Graph
  g = graph_of nodes edges

  abbrev index : List Group
  index = index_of g constraints

  module _ (c : ℕ) (ids : List ℕ) (h : c < constraints_in constraints) (key : IsKey g (constraint_at constraints c) ids)
      (most : length (list_of g (constraint_at constraints c) ids) ≤ (constraint_at constraints c).most) where
    abbrev d : Constraint
    d = constraint_at constraints c

    abbrev own : Group
    own = group_of g d c ids

    around : Around g constraints c ids
    around = key-around g constraints c ids h key

    number : length own.entries ≡ length (list_of g d ids)
    number = entry-number nodes edges d ids key.size (omega arith)

    -- the list is not empty: it is found, and fit
    read-filled : index ≡ around.before ++ own ∷ around.after
        → read_found nodes d (entry_bytes index) (found (group_bytes 0 index) (key_of c ids)) ≡ some (entries_of g d ids)
    unfolding read_found
    read-filled whole =
        let start = entry_total around.before in
        let n = length (list_of g d ids) in
        let at : found (group_bytes 0 index) (key_of c ids) ≡ Some (record { start = start; count = length own.entries }) =
        found-own c ids index around.before around.after fits around.lower around.upper own whole refl in
        let stands : list_part (entry_bytes index) start (length own.entries) ≡ list_bytes own.entries = rw whole (list-part around.before own around.after) in
        let total : entry_total index ≡ start + entry_total (own ∷ around.after) = ap entry_total whole ∙ total-append around.before (own ∷ around.after) in
        let fit : rule_broken nodes d (entry_bytes index) start (length own.entries) ≡ 0 =
        rw number
        (list-fit nodes edges d ids key.size (omega arith) (entry_bytes index) start
        (inside-index around.before own around.after n whole number) most (rw number at stands)) in
        let same : entry_list (list_part (entry_bytes index) start (length own.entries)) (length own.entries) ≡ entries_of g d ids =
        rw stands (list-read (entries_of g d ids) (small-entries nodes edges d ids key.size (omega arith))) in
        ap (read_found nodes d (entry_bytes index)) at ∙ rw (fit, same)

    -- the list is empty: nothing is found
    read-none : index ≡ around.before ++ around.after → length own.entries ≡ 0
        → read_found nodes d (entry_bytes index) (found (group_bytes 0 index) (key_of c ids)) ≡ some (entries_of g d ids)
    unfolding read_found
    read-none whole e =
        rw (found-none c ids index around.before around.after fits around.lower around.upper whole) (ap some (sym (no-entries (entries_of g d ids) e)))
      where
        no-entries : (l : List Entry) → length l ≡ 0 → l ≡ []
        no-entries [] e = refl
        no-entries (x ∷ l) e = absurd (omega arith)

    pub read-list : read_found nodes d (entry_bytes index) (found (group_bytes 0 index) (key_of c ids)) ≡ some (entries_of g d ids)
    unfolding keep
    read-list = go (eqb (length own.entries) 0) refl around.whole
      where
        go : (t : Bool) → eqb (length own.entries) 0 ≡ t → index ≡ around.before ++ (keep nonempty (own ∷ []) ++ around.after)
            → read_found nodes d (entry_bytes index) (found (group_bytes 0 index) (key_of c ids)) ≡ some (entries_of g d ids)
        go true e w = read-none (rw e at w) (eqb-true _ _ e)
        go false e w = read-filled (rw e at w)

-- ---- an admitted store
module _ (s : List ℕ) (sound : Sound s) where
  limits : Limits s
  limits = header-limits s sound.right

  abbrev top : List ℕ
  top = header (node_count s) (edge_count s) (constraint_count s) (length (store_index s)) (entry_total (store_index s))

  abbrev body : List ℕ
  body = part s 48 (groups_at s)

  -- its bytes: header, own nodes, edges and constraints, then groups and entries of its index
  split : s ≡ top ++ (body ++ (group_bytes 0 (store_index s) ++ entry_bytes (store_index s)))
  split = sym sound.built ∙ store-split s sound.right

  counted-groups : group_count s ≡ length (store_index s)
  counted-groups =
      ap group_count split
      ∙ groups-read (node_count s) (edge_count s) (constraint_count s) (length (store_index s)) (entry_total (store_index s))
      limits.nodes limits.edges limits.constraints (few-groups s sound.graph) (few-entries s sound.graph) _

  counted-entries : entry_count s ≡ entry_total (store_index s)
  counted-entries =
      ap entry_count split
      ∙ entries-read (node_count s) (edge_count s) (constraint_count s) (length (store_index s)) (entry_total (store_index s))
      limits.nodes limits.edges limits.constraints (few-groups s sound.graph) (few-entries s sound.graph) _

  top-length : length top ≡ 48
  top-length =
      header-length (node_count s) (edge_count s) (constraint_count s) (length (store_index s)) (entry_total (store_index s))

  front-length : length (top ++ body) ≡ groups_at s
  front-length = length-append top body ∙ omega (arith, top-length, body-length s sound.right)

  pub group-part : group_part s ≡ group_bytes 0 (store_index s)
  group-part =
      let groups = group_bytes 0 (store_index s) in
      let entries = entry_bytes (store_index s) in
      let n : length groups ≡ group_count s * 24 = omega (arith, group-length 0 (store_index s), counted-groups) in
      let e : s ≡ (top ++ body) ++ (groups ++ entries) = split ∙ sym (append_assoc top body (groups ++ entries)) in
      ap (λ l. part l (groups_at s) (groups_at s + group_count s * 24)) e ∙ part-middle (top ++ body) groups entries (groups_at s) (group_count s * 24) front-length n

  pub entry-part : entry_part s ≡ entry_bytes (store_index s)
  entry-part =
      let groups = group_bytes 0 (store_index s) in
      let entries = entry_bytes (store_index s) in
      let n : length entries ≡ entry_count s * 8 = omega (arith, entry-length (store_index s), counted-entries) in
      let f : length (top ++ body ++ groups) ≡ entries_at s =
      length-append (top ++ body) groups ∙ omega (arith, front-length, group-length 0 (store_index s), counted-groups) in
      let e : s ≡ (top ++ body ++ groups) ++ (entries ++ []) = split ∙ simp (append_assoc, append-nil) in
      ap (λ l. part l (entries_at s) (entries_at s + entry_count s * 8)) e ∙ part-middle (top ++ body ++ groups) entries [] (entries_at s) (entry_count s * 8) f n

  nodes-few : nodes_in (node_part s) ≤ most_nodes
  nodes-few = omega (arith, nodes-in s sound.right, limits.nodes)

  constraints-few : constraints_in (constraint_part s) ≤ most_constraints
  constraints-few = omega (arith, constraints-in s sound.right, limits.constraints)

  pub index-fits : Fits (store_index s)
  unfolding store_index store_graph graph_of
  index-fits = record {
    words = index-words (store_graph s) (constraint_part s) nodes-few constraints-few;
    few = omega (arith, few-entries s sound.graph);
  }

  -- no list exceeds its N
  list-most : (c : ℕ) (ids : List ℕ) → c < constraints_in (constraint_part s) → IsKey (store_graph s) (constraint_at (constraint_part s) c) ids
      → length (list_of (store_graph s) (constraint_at (constraint_part s) c) ids) ≤ (constraint_at (constraint_part s) c).most
  unfolding exceeds satisfies some_exceeds
  list-most c ids h key =
      let g = store_graph s in
      let d = constraint_at (constraint_part s) c in
      let each : all (λ y. satisfies g (constraint_at (constraint_part s) y)) (range 0 (constraints_in (constraint_part s))) ≡ true =
      not-false _ (graph-zero s sound.graph).within in
      let this : satisfies g d ≡ true =
      all-cut (λ y. satisfies g (constraint_at (constraint_part s) y)) ltb c (range 0 (constraints_in (constraint_part s))) (number-cut g (constraint_part s) c ids h key) each in
      leb-true _ _ (all-cut (λ k. leb (length (list_of g d k)) d.most) ahead ids (keys_of g d) (key-cut g (constraint_part s) c ids h key) this)

  pub sound-faithful : Faithful (store_graph s) (constraint_part s) (reader_of (node_part s) (constraint_part s) (group_part s) (entry_part s))
  unfolding reader_of store_graph store_index graph_of
  sound-faithful = record {
    value = λ v h. refl;
    list = λ c ids h key.
        rw (group-part, entry-part)
        (read-list (node_part s) (edge_part s) (constraint_part s) nodes-few index-fits c ids h key (list-most c ids h key));
    most = list-most;
  }
