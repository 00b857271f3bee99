-- What a reader of a graph's lists gathers, row by row: candidates that suit and leave out no match, and pairs that are edges and leave out no match. Assumes nothing.
use Rattle.std.proofs.Common.{arith, ◌∙◌, get_or-set_other, eq-eqb, ne_eqb}
use Rattle.std.proofs.Math.Decide.{ℕ_discrete}
use Rattle.std.specs.Prelude.{◌≡◌, Bool, cond, ◌&&◌, ℕ, ◌<◌, eqb, get_or, set}
use Rattle.std.proofs.Math.Path.{refl, sym, ap}
use Rattle.std.proofs.Math.Bool.{true}
use mathlib.Core.List.{List, [], ◌∷◌, map, flat_map}
use Rattle.std.proofs.Math.Option.{some}
use Rattle.std.proofs.Math.ListN.{length, length-set}
use Rattle.std.proofs.Math.Seq.{get_or-set_same}
use Rattle.rules.specs.Lists.{all, any, keep, has, choices}
use Rattle.laws.specs.Strict.{Strict}
use Rattle.rules.specs.Store.{constraints_in, constraint_at, labels_of}
use Rattle.rules.specs.Graph.{Graph, neighbours}
use Rattle.rules.specs.Index.{list_of, entries_of}
use Rattle.rules.specs.Pattern.{size_of, meets_both}
use Rattle.rules.specs.Match.{image, suits, is_match}
use Rattle.rules.specs.Plan.{chosen_of, covered, figures_with}
use Rattle.rules.specs.Listing.{Reader, Read, read_keys, Gathered, keys_from, candidates_of, with_node, with_edge, with_row}
use Rattle.rules.specs.declared.Constraint.{Constraint}
use Rattle.rules.specs.declared.Row.{Row}
use Rattle.rules.specs.declared.Entry.{Entry}
use Rattle.laws.specs.Cases.{first-holds, second-holds}
use Rattle.laws.specs.Sets.{has-set, set-strict}
use Rattle.laws.specs.Keep.{has-keep}
use Rattle.laws.specs.Covering.{covered-other}
use Rattle.laws.specs.KeyLists.{IsKey, in-list, list-in}
use Rattle.laws.specs.Every.{Every, every-more, any-passed}
use Rattle.laws.specs.Has.{has-flat}
use Rattle.laws.specs.Beside.{Beside, beside-length, beside-at, beside-every, beside-beside}
use Rattle.laws.specs.Choices.{choices-beside, choices-any}
use Rattle.laws.specs.Rows.{Pick, Fetches}
use Rattle.demands.specs.Faithful.{Faithful}
use Rattle.demands.proofs.Matched.{suits-says, says-suits, match-says, joined-image}
use Rattle.demands.specs.Gathers.{entry_of, read_of, Candidates, Gets, by_of, candidates_at, lists_of}

-- ---- the lists as they are read
nodes-of : (g : Graph) (key l : List ℕ) → map (λ e. e.node) (map (entry_of g key) l) ≡ l
nodes-of g key [] = refl
nodes-of g key (v ∷ l) = ap (λ t. v ∷ t) (nodes-of g key l)

-- the nodes of all lists read
read-nodes : (g : Graph) (d : Constraint) (keys : List (List ℕ)) → flat_map (λ x. map (λ e. e.node) x.entries) (map (read_of g d) keys) ≡ flat_map (list_of g d) keys
unfolding flat_map entries_of
read-nodes g d [] = refl
read-nodes g d (key ∷ keys) = rw (nodes-of g key (list_of g d key), read-nodes g d keys)

-- ---- keys are read as the graph has them
read-next : (r : Reader) (c : ℕ) (key : List ℕ) (keys : List (List ℕ)) (l : List Entry) (reads : List Read) → r.list c key ≡ some l → read_keys r c keys ≡ some reads
    → read_keys r c (key ∷ keys) ≡ some (record { key = key; entries = l } ∷ reads)
unfolding read_keys
read-next r c key keys l reads e f = rw (e, read_keys) (rw f)

module _ {g : Graph} {constraints : List ℕ} {r : Reader} (faithful : Faithful g constraints r) where
  read-keys : (c : ℕ) → c < constraints_in constraints → (keys : List (List ℕ)) → Every (IsKey g (constraint_at constraints c)) keys
      → read_keys r c keys ≡ some (map (read_of g (constraint_at constraints c)) keys)
  unfolding Every
  read-keys c l [] h = unfold read_keys in refl
  read-keys c l (key ∷ keys) h = read-next r c key keys _ _ (faithful.list c key l h.0) (read-keys c l keys h.1)

-- ---- what has been gathered
module _ {g : Graph} {constraints b figures : List ℕ} {got : Gathered} {row : Row} (gets : Gets g b figures got) (fetches : Fetches constraints b figures row) where
  -- every key that is taken is a key of the constraint
  key-is : (key : List ℕ) → Beside (λ w v. has v (candidates_at got w) ≡ true) (chosen_of row) key → IsKey g (by_of constraints row) key
  key-is key h =
      let both = beside-beside (Pick b figures row.fetched) (λ w v. has v (candidates_at got w) ≡ true) (λ l v. (v < g.size) × (g.label v ≡ l))
      (λ l w v p k.
      let s = suits-says g b w v ((gets.node w p.below p.known).sound v k) in
      (s.node, s.label ∙ p.label)) (labels_of (by_of constraints row)) (chosen_of row) key fetches.chosen h in
      record {
        size = beside-length _ (labels_of (by_of constraints row)) key both;
        nodes = λ j l. (beside-at _ (labels_of (by_of constraints row)) key both j l).0;
        labels = λ j l. (beside-at _ (labels_of (by_of constraints row)) key both j l).1;
      }

  pub keys-are : Every (λ key. Beside (λ w v. has v (candidates_at got w) ≡ true) (chosen_of row) key × IsKey g (by_of constraints row) key) (keys_from got row)
  unfolding keys_from
  keys-are = every-more _ _ (λ key h. (h, key-is key h)) (choices (map (candidates_at got) (chosen_of row))) (choices-beside (candidates_at got) (chosen_of row))

  -- the key of a match's images is taken, and its list has the image of the fetched node
  module _ (m : List ℕ) (match : is_match g b m ≡ true) where
    images-near : (ws : List ℕ) → Every (λ w. neighbours g (image m row.fetched) (image m w) ≡ true) ws → all (neighbours g (image m row.fetched)) (map (image m) ws) ≡ true
    unfolding all Every
    images-near [] h = refl
    images-near (w ∷ ws) h = rw h.0 (images-near ws h.1)

    pub image-listed : has (image m row.fetched) (list_of g (by_of constraints row) (map (image m) (chosen_of row))) ≡ true
    image-listed =
        let says = match-says g b m match in
        let s = suits-says g b row.fetched (image m row.fetched) (says.node row.fetched fetches.fetched) in
        list-in g (by_of constraints row) (map (image m) (chosen_of row)) (image m row.fetched) record {
          joined = images-near (chosen_of row)
              (beside-every (Pick b figures row.fetched) _ (λ l w p. joined-image g b m says row.fetched w p.near) (labels_of (by_of constraints row)) (chosen_of row) fetches.chosen);
          label = s.label ∙ fetches.label;
          node = s.node;
        }

    images-taken : Every (λ w. has (image m w) (candidates_at got w) ≡ true) (chosen_of row)
    images-taken =
        beside-every (Pick b figures row.fetched) _ (λ l w p. (gets.node w p.below p.known).whole m match) (labels_of (by_of constraints row)) (chosen_of row) fetches.chosen

    -- so a test that this key passes is passed by a key that is taken
    pub key-taken : (p : List ℕ → Bool) → p (map (image m) (chosen_of row)) ≡ true → any p (keys_from got row) ≡ true
    unfolding keys_from
    key-taken p h = choices-any p (candidates_at got) (image m) (chosen_of row) images-taken h

-- a row whose lists are read
row-read : (r : Reader) (b : List ℕ) (got : Gathered) (row : Row) (reads : List Read) → read_keys r row.constraint (keys_from got row) ≡ some reads
    → with_row r b got row ≡ some (cond (eqb row.kind 0) (with_node r b got row reads) (with_edge b got row reads))
unfolding with_row
row-read r b got row reads e = rw (e, with_row)

module _ {g : Graph} {constraints b figures : List ℕ} {got : Gathered} {row : Row} {r : Reader}
    (faithful : Faithful g constraints r) (gets : Gets g b figures got) (fetches : Fetches constraints b figures row) where
  lists-read : read_keys r row.constraint (keys_from got row) ≡ some (lists_of g constraints got row)
  lists-read = read-keys faithful row.constraint fetches.constraint (keys_from got row) (every-more _ _ (λ key h. h.1) (keys_from got row) (keys-are gets fetches))

  -- ---- a node row
  has-candidate : (v : ℕ) → has v (candidates_of r b row.fetched (lists_of g constraints got row)) ≡ (meets_both b row.fetched (r.value v) && any (λ key. has v (list_of g (by_of constraints row) key)) (keys_from got row))
  unfolding candidates_of
  has-candidate v =
      has-set v _ ∙ has-keep (λ v. meets_both b row.fetched (r.value v)) v _
      ∙ ap (λ l. meets_both b row.fetched (r.value v) && has v l) (read-nodes g (by_of constraints row) (keys_from got row))
      ∙ ap (λ t. meets_both b row.fetched (r.value v) && t) (has-flat v (list_of g (by_of constraints row)) (keys_from got row))

  node-sound : (v : ℕ) → has v (candidates_of r b row.fetched (lists_of g constraints got row)) ≡ true → suits g b row.fetched v ≡ true
  node-sound v h =
      let meet = meets_both b row.fetched (r.value v) in
      let some_key = any (λ key. has v (list_of g (by_of constraints row) key)) (keys_from got row) in
      let both : (meet && some_key) ≡ true = sym (has-candidate v) ∙ h in
      let key = any-passed _ (λ key. has v (list_of g (by_of constraints row) key)) (keys_from got row) (keys-are gets fetches) (second-holds meet some_key both) in
      let listed = in-list g (by_of constraints row) key.one v key.passes in
      says-suits g b row.fetched v record {
        node = listed.node;
        label = listed.label ∙ sym fetches.label;
        meet = rw (faithful.value v listed.node) at (first-holds meet some_key both);
      }

  node-whole : (m : List ℕ) → is_match g b m ≡ true → has (image m row.fetched) (candidates_of r b row.fetched (lists_of g constraints got row)) ≡ true
  node-whole m match =
      let v = image m row.fetched in
      let s = suits-says g b row.fetched v ((match-says g b m match).node row.fetched fetches.fetched) in
      let taken : any (λ key. has v (list_of g (by_of constraints row) key)) (keys_from got row) ≡ true =
      key-taken gets fetches m match (λ key. has v (list_of g (by_of constraints row) key)) (image-listed gets fetches m match) in
      let meet : meets_both b row.fetched (r.value v) ≡ true = rw (faithful.value v s.node) s.meet in
      has-candidate v ∙ rw (meet, taken)

  node-strict : Strict (candidates_of r b row.fetched (lists_of g constraints got row))
  unfolding candidates_of
  node-strict = set-strict (keep (λ v. meets_both b row.fetched (r.value v)) (flat_map (λ x. map (λ e. e.node) x.entries) (lists_of g constraints got row)))

  -- the candidates of its node are such
  node-candidates : Candidates g b row.fetched (candidates_of r b row.fetched (lists_of g constraints got row))
  node-candidates = record { strict = node-strict; sound = node-sound; whole = node-whole }

  -- after a node row one more node is covered, and its candidates are such
  pub node-gets : row.number ≡ row.fetched → Gets g b (figures_with figures row) (with_node r b got row (lists_of g constraints got row))
  unfolding with_node
  node-gets same =
      record {
        size = length-set got.candidates row.fetched (candidates_of r b row.fetched (lists_of g constraints got row)) ∙ gets.size;
        node = λ u l h. go u l h (ℕ_discrete u row.fetched);
      }
    where
      go : (u : ℕ) → u < size_of b → covered (figures_with figures row) u ≡ true → Dec (u ≡ row.fetched)
          → Candidates g b u (get_or (set got.candidates row.fetched (candidates_of r b row.fetched (lists_of g constraints got row))) u [])
      go u l h (yes e) =
          let inside : row.fetched < length got.candidates = omega (arith, gets.size, fetches.fetched) in
          rw (e, get_or-set_same got.candidates row.fetched (candidates_of r b row.fetched (lists_of g constraints got row)) [] inside) node-candidates
      go u l h (no n) =
          let k : covered figures u ≡ true = sym (covered-other figures row.number row.figure u (λ e. n (e ∙ same))) ∙ h in
          rw (get_or-set_other got.candidates row.fetched u (candidates_of r b row.fetched (lists_of g constraints got row)) [] n) (gets.node u l k)

  pub node-read : row.kind ≡ 0 → with_row r b got row ≡ some (with_node r b got row (lists_of g constraints got row))
  node-read k = row-read r b got row (lists_of g constraints got row) lists-read ∙ rw (eq-eqb row.kind 0 k)

  -- ---- an edge row
  pub edge-read : row.kind ≡ 1 → with_row r b got row ≡ some (with_edge b got row (lists_of g constraints got row))
  edge-read k = row-read r b got row (lists_of g constraints got row) lists-read ∙ rw (ne_eqb row.kind 0 (λ z. omega arith))
