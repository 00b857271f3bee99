-- The graph store: header, sections, records, and what makes each right.
use Rattle.std.specs.Prelude.{ℕ, ◌+◌, ◌-◌, ◌*◌, ◌/◌, Bool, not, ◌&&◌, ◌||◌, List, [], ◌∷◌, ltb, leb, eqb, length}
use Rattle.rules.specs.Words.{Bytes, Section, u16_at, u32_at, encoded, part}
use Rattle.rules.specs.Lists.{all_from, keep, less_then}
use Rattle.rules.specs.declared.Constraint.{Constraint}

-- the five counts: nodes n, edges m, constraints k, groups g, entries e
abbrev pub node_count : Bytes → ℕ
node_count s = u32_at s 4

abbrev pub edge_count : Bytes → ℕ
edge_count s = u32_at s 8

abbrev pub constraint_count : Bytes → ℕ
constraint_count s = u32_at s 12

abbrev pub group_count : Bytes → ℕ
group_count s = u32_at s 16

abbrev pub entry_count : Bytes → ℕ
entry_count s = u32_at s 20

-- the forced offsets of sections with these counts, and the total: sections follow the 48-byte header without gaps
abbrev pub edges_from : ℕ → ℕ
edges_from n = 48 + n * 8

abbrev pub constraints_from : ℕ → ℕ → ℕ
constraints_from n m = edges_from n + m * 8

abbrev pub groups_from : ℕ → ℕ → ℕ → ℕ
groups_from n m k = constraints_from n m + k * 12

abbrev pub entries_from : ℕ → ℕ → ℕ → ℕ → ℕ
entries_from n m k g = groups_from n m k + g * 24

abbrev pub end_from : ℕ → ℕ → ℕ → ℕ → ℕ → ℕ
end_from n m k g e = entries_from n m k g + e * 8

-- those of a store
abbrev pub edges_at : Bytes → ℕ
edges_at s = edges_from (node_count s)

abbrev pub constraints_at : Bytes → ℕ
constraints_at s = constraints_from (node_count s) (edge_count s)

abbrev pub groups_at : Bytes → ℕ
groups_at s = groups_from (node_count s) (edge_count s) (constraint_count s)

abbrev pub entries_at : Bytes → ℕ
entries_at s = entries_from (node_count s) (edge_count s) (constraint_count s) (group_count s)

abbrev pub end_at : Bytes → ℕ
end_at s = end_from (node_count s) (edge_count s) (constraint_count s) (group_count s) (entry_count s)

-- at most 65,535 nodes, 262,144 edges, 32 constraints, 262,144 groups and 1,048,576 entries
abbrev pub most_nodes : ℕ
most_nodes = 65535

abbrev pub most_edges : ℕ
most_edges = 262144

abbrev pub most_constraints : ℕ
most_constraints = 32

abbrev pub most_groups : ℕ
most_groups = 262144

abbrev pub most_entries : ℕ
most_entries = 1048576

unfoldable pub counts_right : Bytes → Bool
counts_right s =
    leb (node_count s) most_nodes && leb (edge_count s) most_edges && leb (constraint_count s) most_constraints
    && leb (group_count s) most_groups && leb (entry_count s) most_entries

-- the offsets of the five sections and the total are the forced ones
unfoldable pub offsets_right : Bytes → Bool
offsets_right s =
    eqb (u32_at s 24) 48 && eqb (u32_at s 28) (edges_at s) && eqb (u32_at s 32) (constraints_at s)
    && eqb (u32_at s 36) (groups_at s) && eqb (u32_at s 40) (entries_at s) && eqb (u32_at s 44) (end_at s)

-- the twelve words are right: format 1, counts, offsets, and the total is the length lent
unfoldable pub words_right : Bytes → Bool
words_right s = eqb (u32_at s 0) 1 && counts_right s && offsets_right s && eqb (u32_at s 44) (length s)

-- there is a header, and it is right
unfoldable pub header_right : Bytes → Bool
header_right s = leb 48 (length s) && words_right s

-- a draft's header: right, with g = e = 0
unfoldable pub draft_right : Bytes → Bool
draft_right s = header_right s && (eqb (group_count s) 0 && eqb (entry_count s) 0)

-- the sections
abbrev pub node_part : Bytes → Section
node_part s = part s 48 (edges_at s)

abbrev pub edge_part : Bytes → Section
edge_part s = part s (edges_at s) (constraints_at s)

abbrev pub constraint_part : Bytes → Section
constraint_part s = part s (constraints_at s) (groups_at s)

abbrev pub group_part : Bytes → Section
group_part s = part s (groups_at s) (entries_at s)

abbrev pub entry_part : Bytes → Section
entry_part s = part s (entries_at s) (end_at s)

-- how many records each section has
abbrev pub nodes_in : Section → ℕ
nodes_in nodes = length nodes / 8

abbrev pub edges_in : Section → ℕ
edges_in edges = length edges / 8

abbrev pub constraints_in : Section → ℕ
constraints_in constraints = length constraints / 12

abbrev pub groups_in : Section → ℕ
groups_in groups = length groups / 24

abbrev pub entries_in : Section → ℕ
entries_in entries = length entries / 8

-- a node's label and value
abbrev pub label_at : Section → ℕ → ℕ
label_at nodes v = u16_at nodes (v * 8)

abbrev pub value_at : Section → ℕ → ℕ
value_at nodes v = u32_at nodes (v * 8 + 4)

-- node v: label 1 to 65,535, then a zero
unfoldable pub node_right : Section → ℕ → Bool
node_right nodes v = not (eqb (label_at nodes v) 0) && eqb (u16_at nodes (v * 8 + 2)) 0

unfoldable pub nodes_right : Section → Bool
nodes_right nodes = all_from (node_right nodes) 0 (nodes_in nodes)

-- an edge's ends
abbrev pub from_at : Section → ℕ → ℕ
from_at edges i = u32_at edges (i * 8)

abbrev pub to_at : Section → ℕ → ℕ
to_at edges i = u32_at edges (i * 8 + 4)

-- edge i by itself: both ends below n, and different
unfoldable pub edge_alone : ℕ → Section → ℕ → Bool
edge_alone n edges i = ltb (from_at edges i) n && ltb (to_at edges i) n && not (eqb (from_at edges i) (to_at edges i))

-- edge i comes before edge j by (from, to)
unfoldable pub edge_before : Section → ℕ → ℕ → Bool
edge_before edges i j = less_then (from_at edges i) (from_at edges j) (ltb (to_at edges i) (to_at edges j))

-- edge i: right by itself, and after the edge before it
unfoldable pub edge_right : ℕ → Section → ℕ → Bool
edge_right n edges i = edge_alone n edges i && (eqb i 0 || edge_before edges (i - 1) i)

unfoldable pub edges_right : ℕ → Section → Bool
edges_right n edges = all_from (edge_right n edges) 0 (edges_in edges)

-- every node and edge record keeps its rule
unfoldable pub records_right : Section → Section → Bool
records_right nodes edges = nodes_right nodes && edges_right (nodes_in nodes) edges

-- constraint c
abbrev pub constraint_at : Section → ℕ → Constraint
constraint_at constraints c = record { first = u16_at constraints (c * 12); second = u16_at constraints (c * 12 + 2); third = u16_at constraints (c * 12 + 4); label = u16_at constraints (c * 12 + 6); most = u32_at constraints (c * 12 + 8) }

-- the labels of S: those that are not 0
unfoldable pub labels_of : Constraint → List ℕ
labels_of c = keep (λ l. not (eqb l 0)) (c.first ∷ c.second ∷ c.third ∷ [])

-- label b after label a in S: 0, or above a, which is not 0
unfoldable pub label_after : ℕ → ℕ → Bool
label_after a b = eqb b 0 || not (eqb a 0) && ltb a b

-- a constraint by itself: S strictly ascending with zeros after, l not 0, N from 1 to 65,535
unfoldable pub constraint_alone : Constraint → Bool
constraint_alone c =
    label_after c.first c.second && label_after c.second c.third && not (eqb c.label 0)
    && leb 1 c.most && leb c.most 65535

-- two constraints have the same S and l
unfoldable pub alike : Constraint → Constraint → Bool
alike c d = eqb c.first d.first && eqb c.second d.second && eqb c.third d.third && eqb c.label d.label

-- constraint c: right by itself, and no earlier one has the same S and l
unfoldable pub constraint_right : Section → ℕ → Bool
constraint_right constraints c =
    constraint_alone (constraint_at constraints c)
    && all_from (λ d. not (alike (constraint_at constraints d) (constraint_at constraints c))) 0 c

unfoldable pub constraints_right : Section → Bool
constraints_right constraints = all_from (constraint_right constraints) 0 (constraints_in constraints)

-- the header of a store with these counts
unfoldable pub header : ℕ → ℕ → ℕ → ℕ → ℕ → Bytes
header n m k g e =
    encoded
    (1 ∷ n ∷ m ∷ k ∷ g ∷ e ∷ 48 ∷ edges_from n ∷ constraints_from n m ∷ groups_from n m k ∷ entries_from n m k g ∷ end_from n m k g e ∷ [])
