-- The plan and its figures, from a pattern and the constraint section alone.
use Rattle.std.specs.Prelude.{ℕ, zero, suc, ◌*◌, Bool, cond, not, ◌&&◌, ltb, eqb, length, get_or, set, replicate}
use mathlib.Core.List.{List, [], ◌∷◌, ◌++◌, map, flat_map}
use Rattle.std.proofs.Math.Option.{Option, some, none}
use Rattle.rules.specs.Words.{Bytes, Section, Room, Ids}
use Rattle.rules.specs.Lists.{range, all_from, keep, has, sum, product, choices}
use Rattle.rules.specs.Store.{constraints_in, constraint_at, labels_of}
use Rattle.rules.specs.Pattern.{size_of, edges_of, pattern_label, pattern_from, pattern_to, joined}
use Rattle.rules.specs.declared.Constraint.{Constraint}
use Rattle.rules.specs.declared.Row.{Row}

-- a row with these chosen nodes, 255 for none
unfoldable pub row_of : ℕ → ℕ → ℕ → ℕ → Ids → ℕ → Row
row_of kind number fetched constraint chosen figure = record { kind = kind; number = number; fetched = fetched; constraint = constraint; first = get_or chosen 0 255; second = get_or chosen 1 255; third = get_or chosen 2 255; figure = figure }

-- the chosen nodes of a row
unfoldable pub chosen_of : Row → Ids
chosen_of r = keep (λ w. not (eqb w 255)) (r.first ∷ r.second ∷ r.third ∷ [])

-- the figures so far, one for each of 8 pattern nodes: 0 for a node that is not covered, since N is at least 1
abbrev pub Figures : Type 0
Figures = List ℕ

abbrev pub no_figures : Figures
no_figures = replicate 8 0

-- the figure of node u
abbrev pub figure_of : Figures → ℕ → ℕ
figure_of figures u = get_or figures u 0

-- pattern node u is covered
unfoldable pub covered : Figures → ℕ → Bool
covered figures u = not (eqb (figure_of figures u) 0)

-- the covered neighbours of u with label l, ascending
unfoldable pub covered_with : Bytes → Figures → ℕ → ℕ → Ids
covered_with b figures u l = keep (λ w. covered figures w && joined b u w && eqb (pattern_label b w) l) (range 0 (size_of b))

-- the ways in which u may be fetched by a constraint: u is labelled l, and one covered neighbour is chosen for each label of S
unfoldable pub ways_by : Bytes → Figures → ℕ → Constraint → List Ids
ways_by b figures u c = cond (eqb (pattern_label b u) c.label) (choices (map (covered_with b figures u) (labels_of c))) []

-- N times the figures of the chosen nodes
unfoldable pub figure_by : Figures → Constraint → Ids → ℕ
figure_by figures c chosen = c.most * product (map (figure_of figures) chosen)

-- the smallest figure; ties go to the row that stands first
unfoldable pub smaller : Row → Option Row → Row
smaller r none = r
smaller r (some q) = cond (ltb q.figure r.figure) q r

unfoldable pub smallest : List Row → Option Row
smallest [] = none
smallest (r ∷ rs) = some (smaller r (smallest rs))

-- the ways for node u, by constraint, then chosen nodes
unfoldable pub node_ways : Section → Bytes → Figures → ℕ → List Row
node_ways constraints b figures u =
    flat_map
    (λ c. map
    (λ chosen. row_of 0 u u c chosen (figure_by figures (constraint_at constraints c) chosen))
    (ways_by b figures u (constraint_at constraints c)))
    (range 0 (constraints_in constraints))

-- the ways for all uncovered nodes, by node
unfoldable pub all_ways : Section → Bytes → Figures → List Row
all_ways constraints b figures = flat_map (node_ways constraints b figures) (keep (λ u. not (covered figures u)) (range 0 (size_of b)))

-- the figures after one more node row, and after some
abbrev pub figures_with : Figures → Row → Figures
figures_with figures r = set figures r.number r.figure

unfoldable pub figures_after : Figures → List Row → Figures
figures_after figures [] = figures
figures_after figures (r ∷ rows) = figures_after (figures_with figures r) rows

-- the node rows from these figures on, at most n of them: repeatedly take the smallest figure, of all uncovered nodes and ways
unfoldable pub node_rows_from : Section → Bytes → ℕ → Figures → List Row
node_rows_from constraints b zero figures = []
node_rows_from constraints b (suc n) figures =
    elim (smallest (all_ways constraints b figures)) [ none ↦ [] | some r ↦ r ∷ node_rows_from constraints b n (figures_with figures r) ]

unfoldable pub node_rows : Section → Bytes → List Row
node_rows constraints b = node_rows_from constraints b (size_of b) no_figures

-- the figures that all node rows give
unfoldable pub figures_of : Section → Bytes → Figures
figures_of constraints b = figures_after no_figures (node_rows constraints b)

-- the two ends of edge j, the lower node number first
unfoldable pub ends_of : Bytes → ℕ → Ids
ends_of b j =
    cond (ltb (pattern_from b j) (pattern_to b j)) (pattern_from b j ∷ pattern_to b j ∷ []) (pattern_to b j ∷ pattern_from b j ∷ [])

-- the end of edge j other than f
unfoldable pub other_end : Bytes → ℕ → ℕ → ℕ
other_end b j f = cond (eqb f (pattern_from b j)) (pattern_to b j) (pattern_from b j)

-- the ways for edge j with fetched end f by constraint c: as for a node, with the other end among the chosen nodes
unfoldable pub end_ways : Section → Bytes → Figures → ℕ → ℕ → ℕ → List Row
end_ways constraints b figures j c f =
    map
    (λ chosen. row_of 1 j f c chosen (figure_by figures (constraint_at constraints c) chosen))
    (keep (has (other_end b j f)) (ways_by b figures f (constraint_at constraints c)))

-- the ways for edge j, by constraint, then fetched end, then chosen nodes
unfoldable pub edge_ways : Section → Bytes → Figures → ℕ → List Row
edge_ways constraints b figures j =
    flat_map (λ c. flat_map (end_ways constraints b figures j c) (ends_of b j)) (range 0 (constraints_in constraints))

-- a row, or none, as a list
unfoldable pub listed : Option Row → List Row
listed none = []
listed (some r) = r ∷ []

-- the edge rows, in pattern order: for each edge the smallest figure, if it is covered
unfoldable pub edge_rows : Section → Bytes → List Row
edge_rows constraints b = flat_map (λ j. listed (smallest (edge_ways constraints b (figures_of constraints b) j))) (range 0 (edges_of b))

-- all rows: node rows in plan order, then edge rows in pattern order
unfoldable pub rows_of : Section → Bytes → List Row
rows_of constraints b = node_rows constraints b ++ edge_rows constraints b

-- pattern edge j is covered: there is a way
unfoldable pub edge_covered : Section → Bytes → Figures → ℕ → Bool
edge_covered constraints b figures j = not (eqb (length (edge_ways constraints b figures j)) 0)

-- every pattern node and every pattern edge is covered
unfoldable pub all_covered : Section → Bytes → Bool
all_covered constraints b =
    all_from (covered (figures_of constraints b)) 0 (size_of b) && all_from (edge_covered constraints b (figures_of constraints b)) 0 (edges_of b)

-- the bound T: the sum over all rows; refused above this
abbrev pub most_read : ℕ
most_read = 65536

unfoldable pub bound : Section → Bytes → ℕ
bound constraints b = sum (map (λ r. r.figure) (rows_of constraints b))

-- the 8 words of a row
unfoldable pub row_words : Row → Room
row_words r = r.kind ∷ r.number ∷ r.fetched ∷ r.constraint ∷ r.first ∷ r.second ∷ r.third ∷ r.figure ∷ []

-- the words that planning writes
unfoldable pub plan_words : Section → Bytes → Room
plan_words constraints b = flat_map row_words (rows_of constraints b)
