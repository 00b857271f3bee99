-- What an edge row gathers: pairs that are edges of the graph and leave out no match. Assumes nothing.
use Rattle.std.proofs.Common.{arith, sym, ◌∙◌}
use Rattle.std.specs.Prelude.{◌≡◌, refl, Bool, ◌&&◌, ℕ, suc, ◌+◌, ◌*◌, ◌<◌, length, get_or}
use Rattle.std.proofs.Math.Path.{ap}
use Rattle.std.proofs.Math.Bool.{true, false}
use Rattle.std.proofs.lemmas.Bool.{false≢true}
use mathlib.Core.List.{List, [], ◌∷◌, map, flat_map}
use Rattle.std.proofs.Math.Dec.{eqb}
use Rattle.std.proofs.lemmas.List.{length-map}
use borrow.Author.Tests.{eqb-true, eqb-false, eq-eqb, ne_eqb}
use Rattle.rules.specs.Lists.{any, keep, has}
use Rattle.rules.specs.Graph.{Graph}
use Rattle.rules.specs.Index.{list_of, directions_of, entries_of}
use Rattle.rules.specs.Pattern.{size_of, pattern_from, pattern_to}
use Rattle.rules.specs.Match.{image, is_match}
use Rattle.rules.specs.Plan.{chosen_of, covered, other_end}
use Rattle.rules.specs.Listing.{Gathered, keys_from, place_of, bit_set, agrees, pair_of, pairs_in}
use Rattle.rules.specs.declared.Row.{Row}
use Rattle.laws.specs.Cases.{first-holds, second-holds}
use Rattle.laws.specs.PatternLaws.{RightPattern, edge-says}
use Rattle.laws.specs.Every.{every-member, any-passed}
use Rattle.laws.specs.Any.{any-flat, any-map, any-member, any-keep}
use Rattle.laws.specs.Beside.{beside-length}
use Rattle.laws.specs.Rows.{EdgeRow}
use Rattle.laws.specs.KeyLists.{bit-from, bit-to}
use Rattle.demands.proofs.Matched.{match-says}
use Rattle.demands.specs.Gathers.{entry_of, read_of, by_of, candidates_at, lists_of, has_both, Pairs, Gets}
use Rattle.demands.proofs.Gathers.{keys-are, key-taken, image-listed}
use Rattle.demands.specs.EdgeRows.{turned, passes}

-- ---- the place of the other end
place-below : (o : ℕ) (ws : List ℕ) → has o ws ≡ true → place_of o ws < length ws
unfolding place_of has
place-below o [] h = absurd (false≢true h)
place-below o (w ∷ ws) h = go (eqb o w) refl (place-below o ws)
  where
    go : (t : Bool) → eqb o w ≡ t → (has o ws ≡ true → place_of o ws < length ws) → place_of o (w ∷ ws) < suc (length ws)
    go true e ih = rw e (omega arith)
    go false e ih = let k = ih (rw e at h) in rw e (omega arith)

place-image : (f : ℕ → ℕ) (o : ℕ) (ws : List ℕ) → has o ws ≡ true → get_or (map f ws) (place_of o ws) 0 ≡ f o
unfolding place_of has
place-image f o [] h = absurd (false≢true h)
place-image f o (w ∷ ws) h = go (eqb o w) refl (place-image f o ws)
  where
    go : (t : Bool) → eqb o w ≡ t → (has o ws ≡ true → get_or (map f ws) (place_of o ws) 0 ≡ f o) → get_or (map f (w ∷ ws)) (place_of o (w ∷ ws)) 0 ≡ f o
    go true e ih = rw e (ap f (sym (eqb-true o w e)))
    go false e ih = rw e (ih (rw e at h))

-- ---- one list
-- an entry that passes is joined to the key's node by this edge
passes-edge : (g : Graph) (candidates key : List ℕ) (place x y : ℕ) → place < length key → (t : Bool) (v : ℕ) → passes g candidates key place x y t v ≡ true → g.edge x y ≡ true
passes-edge g candidates key place x y l true v h =
    let o = get_or key place 0 in
    let bit = bit_set (directions_of g key v) (2 * place) in
    let front : (has v candidates && bit) ≡ true = first-holds (has v candidates && bit) (eqb o x && eqb v y) h in
    let back : (eqb o x && eqb v y) ≡ true = second-holds (has v candidates && bit) (eqb o x && eqb v y) h in
    let e : o ≡ x = eqb-true o x (first-holds (eqb o x) (eqb v y) back) in
    let f : v ≡ y = eqb-true v y (second-holds (eqb o x) (eqb v y) back) in
    rw (← e, ← f) (sym (bit-from g v key place l) ∙ second-holds (has v candidates) bit front)
passes-edge g candidates key place x y l false v h =
    let o = get_or key place 0 in
    let bit = bit_set (directions_of g key v) (2 * place + 1) in
    let front : (has v candidates && bit) ≡ true = first-holds (has v candidates && bit) (eqb v x && eqb o y) h in
    let back : (eqb v x && eqb o y) ≡ true = second-holds (has v candidates && bit) (eqb v x && eqb o y) h in
    let e : v ≡ x = eqb-true v x (first-holds (eqb v x) (eqb o y) back) in
    let f : o ≡ y = eqb-true o y (second-holds (eqb v x) (eqb o y) back) in
    rw (← e, ← f) (sym (bit-to g v key place l) ∙ second-holds (has v candidates) bit front)

-- and a candidate that is joined so passes
edge-passes : (g : Graph) (candidates key : List ℕ) (place o : ℕ) → place < length key → get_or key place 0 ≡ o → (x y : ℕ) → g.edge x y ≡ true → (t : Bool) (v : ℕ)
    → has v candidates ≡ true → (turned t o v).0 ≡ x → (turned t o v).1 ≡ y → passes g candidates key place x y t v ≡ true
edge-passes g candidates key place o l at x y e true v c p q =
    let k : g.edge o v ≡ true = rw (p, q) e in
    rw (c, bit-from g v key place l, at, k, eq-eqb o x p, eq-eqb v y q)
edge-passes g candidates key place o l at x y e false v c p q =
    let k : g.edge v o ≡ true = rw (p, q) e in
    rw (c, bit-to g v key place l, at, k, eq-eqb v x p, eq-eqb o y q)

module _ (g : Graph) (constraints b : List ℕ) (got : Gathered) (row : Row) (x y : ℕ) where
  abbrev place : ℕ
  place = place_of (other_end b row.number row.fetched) (chosen_of row)

  abbrev way : Bool
  way = eqb row.fetched (pattern_to b row.number)

  -- the pairs of one list, entry by entry
  pairs-list : (key : List ℕ) → has_both (pairs_in b got row (read_of g (by_of constraints row) key)) x y
      ≡ any (passes g (candidates_at got row.fetched) key place x y way) (list_of g (by_of constraints row) key)
  unfolding has_both pairs_in entries_of agrees pair_of
  pairs-list key =
      any-map _ _ (keep _ (map (entry_of g key) (list_of g (by_of constraints row) key))) ∙ any-keep _ _ (map (entry_of g key) (list_of g (by_of constraints row) key)) ∙ any-map _ (entry_of g key) (list_of g (by_of constraints row) key)

-- ---- all lists of the row
pairs-lists : (g : Graph) (constraints b : List ℕ) (got : Gathered) (row : Row) (x y : ℕ)
    → has_both (flat_map (pairs_in b got row) (lists_of g constraints got row)) x y ≡ any (λ key. has_both (pairs_in b got row (read_of g (by_of constraints row) key)) x y) (keys_from got row)
unfolding has_both
pairs-lists g constraints b got row x y =
    any-flat (λ p. eqb p.0 x && eqb p.1 y) (pairs_in b got row) (lists_of g constraints got row)
    ∙ any-map (λ r. any (λ p. eqb p.0 x && eqb p.1 y) (pairs_in b got row r)) (read_of g (by_of constraints row)) (keys_from got row)

module _ {g : Graph} {constraints b figures : List ℕ} {got : Gathered} {row : Row} (right : RightPattern b) (gets : Gets g b figures got)
    (all-known : (u : ℕ) → u < size_of b → covered figures u ≡ true) (edge : EdgeRow constraints b figures row.number row) where
  -- the two ends, by which way round
  ends-are : (t : Bool) → eqb row.fetched (pattern_to b row.number) ≡ t
      → (f : ℕ → ℕ) → ((turned t (f (other_end b row.number row.fetched)) (f row.fetched)).0 ≡ f (pattern_from b row.number))
      × ((turned t (f (other_end b row.number row.fetched)) (f row.fetched)).1 ≡ f (pattern_to b row.number))
  unfolding other_end
  ends-are true e f =
      let is : row.fetched ≡ pattern_to b row.number = eqb-true row.fetched (pattern_to b row.number) e in
      let other : eqb row.fetched (pattern_from b row.number) ≡ false =
      ne_eqb row.fetched (pattern_from b row.number) (λ q. (edge-says right row.number edge.edge.below).apart (sym q ∙ is)) in
      (rw other, ap f is)
  ends-are false e f =
      let is : row.fetched ≡ pattern_from b row.number = edge.edge.ends (eqb-false row.fetched (pattern_to b row.number) e) in
      (ap f is, rw (eq-eqb row.fetched (pattern_from b row.number) is))

  row-sound : (x y : ℕ) → has_both (flat_map (pairs_in b got row) (lists_of g constraints got row)) x y ≡ true → g.edge x y ≡ true
  row-sound x y h =
      let key = any-passed _ (λ key. has_both (pairs_in b got row (read_of g (by_of constraints row) key)) x y) (keys_from got row) (keys-are gets edge.fetches)
      (sym (pairs-lists g constraints b got row x y) ∙ h) in
      let list = list_of g (by_of constraints row) key.one in
      let p = place g constraints b got row x y in
      let size : length key.one ≡ length (chosen_of row) = beside-length _ (chosen_of row) key.one key.holds.0 in
      let inside : p < length key.one = omega (arith, place-below (other_end b row.number row.fetched) (chosen_of row) edge.edge.other) in
      let test = passes g (candidates_at got row.fetched) key.one p x y (way g constraints b got row x y) in
      let v = any-passed _ test list (every-member (λ v. has v list ≡ true) list (λ v k. k)) (sym (pairs-list g constraints b got row x y key.one) ∙ key.passes) in
      passes-edge g (candidates_at got row.fetched) key.one p x y inside (way g constraints b got row x y) v.one v.passes

  module _ (m : List ℕ) (match : is_match g b m ≡ true) where
    abbrev from : ℕ
    from = image m (pattern_from b row.number)

    abbrev to : ℕ
    to = image m (pattern_to b row.number)

    image-passes : (t : Bool) → eqb row.fetched (pattern_to b row.number) ≡ t
        → passes g (candidates_at got row.fetched) (map (image m) (chosen_of row)) (place_of (other_end b row.number row.fetched) (chosen_of row)) from to t (image m row.fetched) ≡ true
    image-passes t e =
        let other = other_end b row.number row.fetched in
        let ends = ends-are t e (image m) in
        let size : length (map (image m) (chosen_of row)) ≡ length (chosen_of row) = length-map (chosen_of row) (image m) in
        let inside : place_of other (chosen_of row) < length (map (image m) (chosen_of row)) = omega (arith, place-below other (chosen_of row) edge.edge.other) in
        edge-passes g (candidates_at got row.fetched) (map (image m) (chosen_of row)) (place_of other (chosen_of row)) (image m other) inside
        (place-image (image m) other (chosen_of row) edge.edge.other) from to ((match-says g b m match).edge row.number edge.edge.below) t (image m row.fetched)
        ((gets.node row.fetched edge.fetches.fetched (all-known row.fetched edge.fetches.fetched)).whole m match) ends.0 ends.1

    row-whole : has_both (flat_map (pairs_in b got row) (lists_of g constraints got row)) from to ≡ true
    row-whole =
        let key = map (image m) (chosen_of row) in
        pairs-lists g constraints b got row from to
        ∙ key-taken gets edge.fetches m match (λ key. has_both (pairs_in b got row (read_of g (by_of constraints row) key)) from to)
        (pairs-list g constraints b got row from to key
        ∙ any-member _ (image m row.fetched) (list_of g (by_of constraints row) key) (image-listed gets edge.fetches m match)
        (image-passes (eqb row.fetched (pattern_to b row.number)) refl))

  -- the pairs of its edge are such
  pub row-pairs : Pairs g b row.number (flat_map (pairs_in b got row) (lists_of g constraints got row))
  row-pairs = record { sound = row-sound; whole = row-whole }
