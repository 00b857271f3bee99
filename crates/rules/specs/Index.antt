-- Keys, lists, groups and entries of a graph, and the bytes of the store that building gives.
use Rattle.std.specs.Prelude.{ℕ, ◌+◌, ◌*◌, Bool, cond, not, ◌||◌, ltb, leb, eqb, length}
use mathlib.Core.List.{List, [], ◌∷◌, ◌++◌, map, flat_map}
use Rattle.rules.specs.Words.{Bytes, Section, Ids, u32_bytes, encoded}
use Rattle.rules.specs.Lists.{range, all, keep, sum, choices, padded}
use Rattle.rules.specs.Store.{most_groups, most_entries, node_part, edge_part, constraint_part, nodes_in, edges_in, constraints_in, constraint_at, labels_of, header}
use Rattle.rules.specs.Graph.{Graph, store_graph, neighbours, labelled}
use Rattle.rules.specs.declared.Constraint.{Constraint}
use Rattle.rules.specs.declared.Entry.{Entry}

-- the keys of a constraint, ascending: one node for each label of S, in S's order
unfoldable pub keys_of : Graph → Constraint → List Ids
keys_of g c = choices (map (labelled g) (labels_of c))

-- the list of a key, ascending: every node labelled l that neighbours all nodes of the key
unfoldable pub list_of : Graph → Constraint → Ids → Ids
list_of g c key = keep (λ v. all (neighbours g v) key) (labelled g c.label)

-- the graph satisfies a constraint when no list is longer than N
unfoldable pub satisfies : Graph → Constraint → Bool
satisfies g c = all (λ key. leb (length (list_of g c key)) c.most) (keys_of g c)

-- directions of entry v: for the key's node j, bit 2j is an edge from it to the entry, bit 2j+1 one from the entry to it
unfoldable pub directions_of : Graph → Ids → ℕ → ℕ
directions_of g [] v = 0
directions_of g (u ∷ key) v = cond (g.edge u v) 1 0 + cond (g.edge v u) 2 0 + 4 * directions_of g key v

-- the entries of a key's list
unfoldable pub entries_of : Graph → Constraint → Ids → List Entry
entries_of g c key = map (λ v. record { node = v; directions = directions_of g key v }) (list_of g c key)

-- a group: its constraint's number, its key and the entries of its list
pub record Group : Type 0 where
  pub constraint : ℕ
  pub key : Ids
  pub entries : List Entry

-- the groups of constraint c, for non-empty lists only, ascending by ids
unfoldable pub groups_of : Graph → Constraint → ℕ → List Group
groups_of g d c =
    keep (λ x. not (eqb (length x.entries) 0)) (map (λ key. record { constraint = c; key = key; entries = entries_of g d key }) (keys_of g d))

-- all groups, ascending by (constraint, ids)
unfoldable pub index_of : Graph → Section → List Group
index_of g constraints = flat_map (λ c. groups_of g (constraint_at constraints c) c) (range 0 (constraints_in constraints))

-- an id that is not used
abbrev pub no_id : ℕ
no_id = 4294967295

-- the group records; starts count entries, and lists follow one another without gaps
unfoldable pub group_bytes : ℕ → List Group → Section
group_bytes start [] = []
group_bytes start (x ∷ xs) =
    encoded (x.constraint ∷ padded no_id x.key ++ start ∷ length x.entries ∷ []) ++ group_bytes (start + length x.entries) xs

-- the entry records of one list
unfoldable pub list_bytes : List Entry → Section
list_bytes l = flat_map (λ x. u32_bytes x.node ++ x.directions ∷ 0 ∷ 0 ∷ 0 ∷ []) l

-- the entry records of all lists, in group order
unfoldable pub entry_bytes : List Group → Section
entry_bytes groups = flat_map (λ x. list_bytes x.entries) groups

-- how many entries the groups have
unfoldable pub entry_total : List Group → ℕ
entry_total groups = sum (map (λ x. length x.entries) groups)

-- some list of the graph exceeds its N
unfoldable pub some_exceeds : Graph → Section → Bool
some_exceeds g constraints = not (all (λ c. satisfies g (constraint_at constraints c)) (range 0 (constraints_in constraints)))

-- the index needs too many groups or entries
unfoldable pub too_large : List Group → Bool
too_large groups = ltb most_groups (length groups) || ltb most_entries (entry_total groups)

-- the bytes of a store of these nodes, edges and constraints with these groups
unfoldable pub store_with : Section → Section → Section → List Group → Bytes
store_with nodes edges constraints groups =
    header (nodes_in nodes) (edges_in edges) (constraints_in constraints) (length groups) (entry_total groups)
    ++ nodes ++ edges ++ constraints ++ group_bytes 0 groups ++ entry_bytes groups

-- of a store's own nodes, edges and constraints: the index, both tests, the bytes that building gives, and the draft
unfoldable pub store_index : Bytes → List Group
store_index s = index_of (store_graph s) (constraint_part s)

unfoldable pub exceeds : Bytes → Bool
exceeds s = some_exceeds (store_graph s) (constraint_part s)

unfoldable pub too_many : Bytes → Bool
too_many s = too_large (store_index s)

unfoldable pub store_of : Bytes → Bytes
store_of s = store_with (node_part s) (edge_part s) (constraint_part s) (store_index s)

unfoldable pub draft_of : Bytes → Bytes
draft_of s = store_with (node_part s) (edge_part s) (constraint_part s) []
