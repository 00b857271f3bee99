-- The list of a key in the graph of a store is fit. Assumes nothing.
use Rattle.std.specs.Prelude.{◌≡◌, Bool, false, cond, ◌||◌, List, map, eqb}
use Rattle.std.proofs.Common.{sym, ◌∙◌}
use Rattle.std.proofs.Math.Path.{ap}
use Rattle.std.proofs.Math.Bool.{true, not}
use Rattle.std.proofs.lemmas.Bool.{false≢true}
use Prim.Native.Nat.{ℕ, zero, suc, ◌+◌, ◌-◌, ◌^◌, ◌≤◌, ◌<◌}
use native.Mathlib.Omega.{arith}
use Rattle.std.proofs.Math.Dec.{ltb}
use Rattle.std.proofs.Math.ListN.{length, get_or, length-map}
use borrow.Author.Tests.{eq-eqb, ne_eqb, lt-ltb, le-ltb}
use Rattle.rules.specs.Lists.{all}
use Rattle.rules.specs.Store.{nodes_in, label_at, labels_of}
use Rattle.rules.specs.Graph.{Graph, graph_of, neighbours}
use Rattle.rules.specs.Index.{list_of, directions_of, entries_of, list_bytes}
use Rattle.rules.specs.Listing.{inside, list_part, bits_for, id_right, label_right, rest_right, beyond_right, bits_right, rule_broken}
use Rattle.rules.specs.declared.Constraint.{Constraint}
use Rattle.rules.specs.declared.Entry.{Entry}
use Rattle.laws.specs.Has.{has-get}
use Rattle.laws.specs.KeyLists.{InList, in-list, list-strict, bits-at, bits-end}
use Rattle.laws.specs.All.{all-map-by, all-has, all-at}
use Rattle.laws.specs.GroupBytes.{small, small_node, no_entry, EntryAt, entry-at}
use Rattle.laws.specs.Map.{get-map}
use Rattle.laws.specs.Strict.{strict-next}
use Rattle.laws.specs.Each.{each-all}

-- ---- lists
-- a neighbour has a bit
near-bits : (a b : Bool) → (b || a) ≡ true → cond a 1 0 + cond b 2 0 ≡ 0 → ⊥
near-bits true true h e = omega arith
near-bits true false h e = omega arith
near-bits false true h e = omega arith
near-bits false false h e = false≢true h

-- ---- the list of a key, with as many ids as S has labels, where node ids are words
module _ (nodes edges : List ℕ) (d : Constraint) (ids : List ℕ) (size : length ids ≡ length (labels_of d)) (few : nodes_in nodes < 4294967296) where
  abbrev g : Graph
  g = graph_of nodes edges

  abbrev list : List ℕ
  list = list_of g d ids

  abbrev bytes : List ℕ
  bytes = list_bytes (entries_of g d ids)

  abbrev node : ℕ → ℕ
  node i = get_or list i 0

  member : (i : ℕ) → i < length list → InList g d ids (node i)
  member i h = in-list g d ids (node i) (has-get list i h)

  node-below : (v : ℕ) → InList g d ids v → v < nodes_in nodes
  unfolding graph_of
  node-below v x = x.node

  node-label : (v : ℕ) → InList g d ids v → label_at nodes v ≡ d.label
  unfolding graph_of
  node-label v x = x.label

  pub entry-number : length (entries_of g d ids) ≡ length list
  unfolding entries_of
  entry-number = length-map list (λ v. record { node = v; directions = directions_of g ids v })

  pub small-entries : all small_node (entries_of g d ids) ≡ true
  unfolding entries_of
  small-entries =
      all-map-by small small_node (λ v. record { node = v; directions = directions_of g ids v }) list (λ v h. h)
      (all-has small list (λ v h. lt-ltb v 4294967296 (let k = node-below v (in-list g d ids v h) in omega arith)))

  read : (i : ℕ) → i < length list → EntryAt bytes i (record { node = node i; directions = directions_of g ids (node i) })
  unfolding entries_of
  read i h =
      let f : ℕ → Entry = λ v. record { node = v; directions = directions_of g ids v } in
      let n : length (map f list) ≡ length list = length-map list f in
      rw (get-map f list i 0 no_entry h) at (entry-at (map f list) i small-entries (omega arith))

  -- each rule, entry by entry
  id-right : (i : ℕ) → i < length list → id_right nodes bytes i ≡ true
  unfolding id_right
  id-right zero h = rw ((read zero h).node, lt-ltb (node zero) (nodes_in nodes) (node-below (node zero) (member zero h)))
  id-right (suc i) h =
      let e : suc i - 1 ≡ i = omega arith in
      let own = (read (suc i) h).node in
      let last = (read i (omega arith)).node in
      let below : ltb (node (suc i)) (nodes_in nodes) ≡ true = lt-ltb _ _ (node-below (node (suc i)) (member (suc i) h)) in
      let above : ltb (node i) (node (suc i)) ≡ true = lt-ltb _ _ (strict-next 0 list i (list-strict g d ids) h) in
      rw (e, own, last, below, ne_eqb (suc i) 0 (λ z. omega arith)) above

  label-right : (i : ℕ) → i < length list → label_right nodes d bytes i ≡ true
  unfolding label_right
  label-right i h = rw (read i h).node (eq-eqb (label_at nodes (node i)) d.label (node-label (node i) (member i h)))

  rest-right : (i : ℕ) → i < length list → rest_right bytes i ≡ true
  unfolding rest_right
  rest-right i h = rw ((read i h).fifth, (read i h).sixth, (read i h).seventh)

  beyond-right : (i : ℕ) → i < length list → beyond_right (length (labels_of d)) bytes i ≡ true
  unfolding beyond_right
  beyond-right i h = rw ((read i h).directions, ← size) (lt-ltb (directions_of g ids (node i)) (4 ^ length ids) (bits-end g (node i) ids))

  bits-right : (i : ℕ) → i < length list → bits_right (length (labels_of d)) bytes i ≡ true
  unfolding bits_right neighbours
  bits-right i h =
      rw (read i h).directions
      (each-all (λ j. not (eqb (bits_for (directions_of g ids (node i)) j) 0)) 0 (length (labels_of d))
      (λ j a k. one j (omega arith)))
    where
      one : (j : ℕ) → j < length ids → not (eqb (bits_for (directions_of g ids (node i)) j) 0) ≡ true
      one j k =
          let u = get_or ids j 0 in
          let v = node i in
          let near : (g.edge v u || g.edge u v) ≡ true = all-at (neighbours g v) 0 ids j (member i h).joined k in
          ap not (ne_eqb (bits_for (directions_of g ids v) j) 0 (λ z. near-bits (g.edge u v) (g.edge v u) near (sym (bits-at g v ids j k) ∙ z)))

  -- so the list breaks none, where its bytes stand among the entries and it has at most N
  pub list-fit : (entries : List ℕ) (start : ℕ) → inside entries start (length list) ≡ true → length list ≤ d.most → list_part entries start (length list) ≡ bytes
      → rule_broken nodes d entries start (length list) ≡ 0
  unfolding rule_broken
  list-fit entries start within most e =
      rw (
        e,
        within,
        le-ltb d.most (length list) most,
        each-all (id_right nodes bytes) 0 (length list) (λ i a h. id-right i (omega arith)),
        each-all (label_right nodes d bytes) 0 (length list) (λ i a h. label-right i (omega arith)),
        each-all (rest_right bytes) 0 (length list) (λ i a h. rest-right i (omega arith)),
        each-all (beyond_right (length (labels_of d)) bytes) 0 (length list) (λ i a h. beyond-right i (omega arith)),
        each-all (bits_right (length (labels_of d)) bytes) 0 (length list) (λ i a h. bits-right i (omega arith)),
      )
