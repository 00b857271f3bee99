-- What each row of a plan is: which node it fetches, by which constraint, and from which covered neighbours. Assumes nothing.
use Rattle.std.proofs.Common.{arith, sym, ◌∙◌, eqb-true, ne_eqb, ltb-true}
use Rattle.std.specs.Prelude.{◌≡◌, Bool, true, false, cond, ◌&&◌, ℕ, ◌+◌, ◌≤◌, ◌<◌, zero, suc, ◌*◌, eqb, ltb, length}
use Rattle.std.proofs.Math.Path.{refl, ap}
use Rattle.std.proofs.Math.Bool.{not}
use mathlib.Core.List.{List, [], ◌∷◌, map, flat_map, ◌++◌}
use Rattle.std.proofs.Math.Option.{some, Option, none}
use Rattle.std.proofs.Math.ListN.{get_or}
use Rattle.rules.specs.Lists.{range, keep, has, choices}
use Rattle.rules.specs.Store.{constraints_in, constraint_at, labels_of}
use Rattle.rules.specs.Pattern.{size_of, edges_of, pattern_label, pattern_from, pattern_to, joined}
use Rattle.rules.specs.Plan.{row_of, chosen_of, covered, covered_with, ways_by, figure_by, smallest, node_ways, all_ways, ends_of, other_end, end_ways, edge_ways, figures_with, node_rows_from, listed, row_words}
use Rattle.rules.specs.declared.Constraint.{Constraint}
use Rattle.rules.specs.declared.Row.{Row}
use Rattle.laws.specs.Cases.{first-holds, second-holds}
use Rattle.laws.specs.Keep.{has-keep}
use Rattle.laws.specs.PatternLaws.{RightPattern, edge-says}
use Rattle.laws.specs.Every.{Every, every-more, every-map, every-flat, every-keep, every-range}
use Rattle.laws.specs.Beside.{Beside, beside-more, beside-length, beside-every}
use Rattle.laws.specs.Choices.{choices-beside}
use Rattle.laws.specs.Range.{has-range}
use Rattle.laws.specs.KeyLists.{labels-few}
use Rattle.laws.specs.Smallest.{smallest-every}

-- ---- what a row says
-- w may be chosen for label l where u is fetched: a covered neighbour of u with this label
pub record Pick (b figures : List ℕ) (u l w : ℕ) : Type 0 where
  pub below : w < size_of b
  pub known : covered figures w ≡ true
  pub near : joined b u w ≡ true
  pub label : pattern_label b w ≡ l

-- a row fetches a node by a constraint for its label, one node being chosen for each label of S, in its first places; its figure is N times theirs
pub record Fetches (constraints b figures : List ℕ) (row : Row) : Type 0 where
  pub constraint : row.constraint < constraints_in constraints
  pub fetched : row.fetched < size_of b
  pub label : pattern_label b row.fetched ≡ (constraint_at constraints row.constraint).label
  pub chosen : Beside (Pick b figures row.fetched) (labels_of (constraint_at constraints row.constraint)) (chosen_of row)
  pub first : row.first ≡ get_or (chosen_of row) 0 255
  pub second : row.second ≡ get_or (chosen_of row) 1 255
  pub third : row.third ≡ get_or (chosen_of row) 2 255
  pub figure : row.figure ≡ figure_by figures (constraint_at constraints row.constraint) (chosen_of row)

-- a node row fetches its node
pub record NodeRow (constraints b figures : List ℕ) (row : Row) : Type 0 where
  pub fetches : Fetches constraints b figures row
  pub kind : row.kind ≡ 0
  pub number : row.number ≡ row.fetched

-- the row of edge j fetches one end of it, and the other end is among the chosen nodes
pub record EdgeOk (b : List ℕ) (j : ℕ) (row : Row) : Type 0 where
  pub number : row.number ≡ j
  pub below : j < edges_of b
  pub ends : (row.fetched ≡ pattern_to b j → ⊥) → row.fetched ≡ pattern_from b j
  pub other : has (other_end b j row.fetched) (chosen_of row) ≡ true

-- an edge row does so for its edge
pub record EdgeRow (constraints b figures : List ℕ) (j : ℕ) (row : Row) : Type 0 where
  pub fetches : Fetches constraints b figures row
  pub kind : row.kind ≡ 1
  pub edge : EdgeOk b j row

-- ---- the ways are such
with-label : (b figures : List ℕ) (u l w : ℕ) → has w (covered_with b figures u l) ≡ true → Pick b figures u l w
unfolding covered_with
with-label b figures u l w h =
    let test = covered figures w && joined b u w && eqb (pattern_label b w) l in
    let k : (test && has w (range 0 (size_of b))) ≡ true = sym (has-keep (λ w. covered figures w && joined b u w && eqb (pattern_label b w) l) w (range 0 (size_of b))) ∙ h in
    let q : test ≡ true = first-holds test (has w (range 0 (size_of b))) k in
    let front = first-holds (covered figures w && joined b u w) (eqb (pattern_label b w) l) q in
    record {
      below = omega (arith, ltb-true w (0 + size_of b) (sym (has-range w 0 (size_of b) (omega arith)) ∙ second-holds test (has w (range 0 (size_of b))) k));
      known = first-holds (covered figures w) (joined b u w) front;
      near = second-holds (covered figures w) (joined b u w) front;
      label = eqb-true (pattern_label b w) l (second-holds (covered figures w && joined b u w) (eqb (pattern_label b w) l) q);
    }

abbrev Way : List ℕ → List ℕ → ℕ → Constraint → List ℕ → Type 0
Way b figures u c chosen = (pattern_label b u ≡ c.label) × Beside (Pick b figures u) (labels_of c) chosen

ways-are : (b figures : List ℕ) (u : ℕ) (c : Constraint) → Every (Way b figures u c) (ways_by b figures u c)
unfolding ways_by Every
ways-are b figures u c = go (eqb (pattern_label b u) c.label) refl
  where
    go : (t : Bool) → eqb (pattern_label b u) c.label ≡ t → Every (Way b figures u c) (cond t (choices (map (covered_with b figures u) (labels_of c))) [])
    go true e =
        every-more (Beside (λ l w. has w (covered_with b figures u l) ≡ true) (labels_of c)) (Way b figures u c)
        (λ chosen q. (eqb-true (pattern_label b u) c.label e, beside-more _ (Pick b figures u) (with-label b figures u) (labels_of c) chosen q))
        (choices (map (covered_with b figures u) (labels_of c))) (choices-beside (covered_with b figures u) (labels_of c))
    go false e = tt

-- ---- a row as the ways make it
not-none : (m x : ℕ) → m ≤ 8 → x < m → x ≡ 255 → ⊥
not-none m x s h e = omega arith

chosen-back : (m kind number fetched c figure : ℕ) → m ≤ 8 → (chosen : List ℕ) → length chosen ≤ 3 → Every (λ w. w < m) chosen → chosen_of (row_of kind number fetched c chosen figure) ≡ chosen
unfolding chosen_of row_of keep Every
chosen-back m kind number fetched c figure s [] l h = refl
chosen-back m kind number fetched c figure s (x ∷ []) l h = rw (ne_eqb x 255 (not-none m x s h.0))
chosen-back m kind number fetched c figure s (x ∷ y ∷ []) l h = rw (ne_eqb x 255 (not-none m x s h.0), ne_eqb y 255 (not-none m y s h.1.0))
chosen-back m kind number fetched c figure s (x ∷ y ∷ z ∷ []) l h =
    rw (ne_eqb x 255 (not-none m x s h.0), ne_eqb y 255 (not-none m y s h.1.0), ne_eqb z 255 (not-none m z s h.1.1.0))
chosen-back m kind number fetched c figure s (x ∷ y ∷ z ∷ w ∷ l) k h = absurd (omega arith)

module _ (constraints b figures : List ℕ) (small : size_of b ≤ 8) where
  abbrev made : ℕ → ℕ → ℕ → ℕ → List ℕ → Row
  made kind number fetched c chosen = row_of kind number fetched c chosen (figure_by figures (constraint_at constraints c) chosen)

  made-back : (kind number u c : ℕ) (chosen : List ℕ) → Beside (Pick b figures u) (labels_of (constraint_at constraints c)) chosen → chosen_of (made kind number u c chosen) ≡ chosen
  made-back kind number u c chosen h =
      chosen-back (size_of b) kind number u c (figure_by figures (constraint_at constraints c) chosen) small chosen
      (omega (arith, beside-length _ (labels_of (constraint_at constraints c)) chosen h, labels-few (constraint_at constraints c)))
      (beside-every (Pick b figures u) (λ w. w < size_of b) (λ l w p. p.below) (labels_of (constraint_at constraints c)) chosen h)

  made-fetches : (kind number u c : ℕ) (chosen : List ℕ) → c < constraints_in constraints → u < size_of b → Way b figures u (constraint_at constraints c) chosen
      → Fetches constraints b figures (made kind number u c chosen)
  unfolding row_of
  made-fetches kind number u c chosen k l w =
      record {
        constraint = k;
        fetched = l;
        label = w.0;
        chosen = rw (made-back kind number u c chosen w.1) w.1;
        first = ap (λ l. get_or l 0 255) (sym (made-back kind number u c chosen w.1));
        second = ap (λ l. get_or l 1 255) (sym (made-back kind number u c chosen w.1));
        third = ap (λ l. get_or l 2 255) (sym (made-back kind number u c chosen w.1));
        figure = ap (figure_by figures (constraint_at constraints c)) (sym (made-back kind number u c chosen w.1));
      }

  -- node rows
  node-ways : (u : ℕ) → u < size_of b → Every (NodeRow constraints b figures) (node_ways constraints b figures u)
  unfolding node_ways row_of
  node-ways u l =
      every-flat (NodeRow constraints b figures) (λ c. c < constraints_in constraints) _
      (λ c k. every-map (NodeRow constraints b figures) (Way b figures u (constraint_at constraints c)) (made 0 u u c)
      (λ chosen w. record { fetches = made-fetches 0 u u c chosen k l w; kind = refl; number = refl }) (ways_by b figures u (constraint_at constraints c))
      (ways-are b figures u (constraint_at constraints c)))
      (range 0 (constraints_in constraints)) (every-range (constraints_in constraints) 0 (constraints_in constraints) (omega arith))

  all-ways : Every (NodeRow constraints b figures) (all_ways constraints b figures)
  unfolding all_ways
  all-ways =
      every-flat (NodeRow constraints b figures) (λ u. (u < size_of b) × (not (covered figures u) ≡ true)) (node_ways constraints b figures) (λ u q. node-ways u q.0)
      (keep (λ u. not (covered figures u)) (range 0 (size_of b)))
      (every-keep (λ u. u < size_of b) (λ u. not (covered figures u)) (range 0 (size_of b)) (every-range (size_of b) 0 (size_of b) (omega arith)))

  -- edge rows
  abbrev End : ℕ → ℕ → Type 0
  End j f = (f < size_of b) × ((f ≡ pattern_to b j → ⊥) → f ≡ pattern_from b j)

  module _ (right : RightPattern b) (j : ℕ) (l : j < edges_of b) where
    ends-every : Every (End j) (ends_of b j)
    unfolding ends_of Every
    ends-every = go (ltb (pattern_from b j) (pattern_to b j))
      where
        from : End j (pattern_from b j)
        from = ((edge-says right j l).from, λ n. refl)

        to : End j (pattern_to b j)
        to = ((edge-says right j l).to, λ n. absurd (n refl))

        go : (t : Bool) → Every (End j) (cond t (pattern_from b j ∷ pattern_to b j ∷ []) (pattern_to b j ∷ pattern_from b j ∷ []))
        go true = (from, (to, tt))
        go false = (to, (from, tt))

    end-row : (c f : ℕ) (chosen : List ℕ) → c < constraints_in constraints → End j f
        → Way b figures f (constraint_at constraints c) chosen × (has (other_end b j f) chosen ≡ true) → EdgeRow constraints b figures j (made 1 j f c chosen)
    unfolding row_of
    end-row c f chosen k e w =
        record {
          fetches = made-fetches 1 j f c chosen k e.0 w.0;
          kind = refl;
          edge = record { number = refl; below = l; ends = e.1; other = rw (made-back 1 j f c chosen w.0.1) w.1 };
        }

    end-ways : (c f : ℕ) → c < constraints_in constraints → End j f → Every (EdgeRow constraints b figures j) (end_ways constraints b figures j c f)
    unfolding end_ways
    end-ways c f k e =
        every-map (EdgeRow constraints b figures j) (λ chosen. Way b figures f (constraint_at constraints c) chosen × (has (other_end b j f) chosen ≡ true)) (made 1 j f c)
        (λ chosen w. end-row c f chosen k e w)
        (keep (has (other_end b j f)) (ways_by b figures f (constraint_at constraints c)))
        (every-keep (Way b figures f (constraint_at constraints c)) (has (other_end b j f)) (ways_by b figures f (constraint_at constraints c)) (ways-are b figures f (constraint_at constraints c)))

    edge-ways : Every (EdgeRow constraints b figures j) (edge_ways constraints b figures j)
    unfolding edge_ways
    edge-ways =
        every-flat (EdgeRow constraints b figures j) (λ c. c < constraints_in constraints) (λ c. flat_map (end_ways constraints b figures j c) (ends_of b j))
        (λ c k. every-flat (EdgeRow constraints b figures j) (End j) (end_ways constraints b figures j c) (λ f e. end-ways c f k e) (ends_of b j) ends-every)
        (range 0 (constraints_in constraints)) (every-range (constraints_in constraints) 0 (constraints_in constraints) (omega arith))

-- ---- the smallest way is one of the ways
module _ (constraints b figures : List ℕ) (right : RightPattern b) where
  -- the next row after these figures is a node row
  pub next-row : (r : Row) → smallest (all_ways constraints b figures) ≡ some r → NodeRow constraints b figures r
  next-row = smallest-every (NodeRow constraints b figures) (all_ways constraints b figures) (all-ways constraints b figures right.header.few)

  -- the row of edge j is an edge row
  pub edge-row : (j : ℕ) → j < edges_of b → (r : Row) → smallest (edge_ways constraints b figures j) ≡ some r → EdgeRow constraints b figures j r
  edge-row j l =
      smallest-every (EdgeRow constraints b figures j) (edge_ways constraints b figures j) (edge-ways constraints b figures right.header.few right j l)

-- ---- how many rows, and how many words they have
-- at most one row for each node and each edge
pub node-few : (constraints b : List ℕ) (n : ℕ) (figures : List ℕ) → length (node_rows_from constraints b n figures) ≤ n
unfolding node_rows_from
node-few constraints b zero figures = omega arith
node-few constraints b (suc n) figures = go (smallest (all_ways constraints b figures)) (λ next. node-few constraints b n next)
  where
    go : (o : Option Row) → ((next : List ℕ) → length (node_rows_from constraints b n next) ≤ n)
        → length {A = Row} (elim o as (λ x. List Row) [ none ↦ [] | some r ↦ r ∷ node_rows_from constraints b n (figures_with figures r) ]) ≤ suc n
    go none ih = omega arith
    go (some r) ih = let k = ih (figures_with figures r) in omega arith

pub edge-few : (f : ℕ → Option Row) (k n : ℕ) → length (flat_map (λ j. listed (f j)) (range k n)) ≤ n
unfolding flat_map range listed
edge-few f k zero = omega arith
edge-few f k (suc n) = go (f k) (edge-few f (k + 1) n)
  where
    go : (o : Option Row) → length (flat_map (λ j. listed (f j)) (range (k + 1) n)) ≤ n → length (listed o ++ flat_map (λ j. listed (f j)) (range (k + 1) n)) ≤ suc n
    go none h = omega arith
    go (some r) h = omega arith

pub words-length : (xs : List Row) → length (flat_map row_words xs) ≡ length xs * 8
unfolding flat_map row_words
words-length [] = refl
words-length (x ∷ xs) = let ih = words-length xs in omega arith
