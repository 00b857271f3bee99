-- The small world of document 01 and the patterns of its cases, as bytes.
use Rattle.std.specs.Prelude.{ℕ, ◌+◌, ◌*◌, length}
use mathlib.Core.List.{List, [], ◌∷◌, ◌++◌, flat_map}
use Rattle.rules.specs.Words.{u16_bytes, u32_bytes, encoded}
use Rattle.rules.specs.Store.{header}

-- a node record of a store
abbrev pub node : ℕ → ℕ → List ℕ
node label value = u16_bytes label ++ u16_bytes 0 ++ u32_bytes value

-- an edge record of a store
abbrev pub edge : ℕ → ℕ → List ℕ
edge from to = u32_bytes from ++ u32_bytes to

-- a constraint record: three labels S, label l, N
abbrev pub constraint : ℕ → ℕ → ℕ → ℕ → ℕ → List ℕ
constraint a b c l n = u16_bytes a ++ u16_bytes b ++ u16_bytes c ++ u16_bytes l ++ u32_bytes n

-- records one after the other
abbrev pub joined_up : List (List ℕ) → List ℕ
joined_up records = flat_map (λ r. r) records

-- a draft of these records
unfoldable pub draft : List (List ℕ) → List (List ℕ) → List (List ℕ) → List ℕ
draft nodes edges constraints =
    header (length nodes) (length edges) (length constraints) 0 0 ++ joined_up nodes ++ joined_up edges ++ joined_up constraints

-- nodes 0 to 6: two locales, two formats, a screen and two fields
unfoldable pub world_nodes : List (List ℕ)
world_nodes = node 1 1 ∷ node 1 2 ∷ node 2 46 ∷ node 2 44 ∷ node 3 10 ∷ node 4 100 ∷ node 4 101 ∷ []

unfoldable pub world_edges : List (List ℕ)
world_edges = edge 0 2 ∷ edge 1 3 ∷ edge 4 5 ∷ edge 4 6 ∷ edge 5 3 ∷ edge 6 2 ∷ []

-- ∅→(1,2); 1→(2,1); 2→(4,4); 4→(3,1)
unfoldable pub world_constraints : List (List ℕ)
world_constraints = constraint 0 0 0 1 2 ∷ constraint 1 0 0 2 1 ∷ constraint 2 0 0 4 4 ∷ constraint 4 0 0 3 1 ∷ []

unfoldable pub world_draft : List ℕ
world_draft = draft world_nodes world_edges world_constraints

-- the seven groups: constraint, three ids, start, count
unfoldable pub world_groups : List ℕ
world_groups =
    encoded
    (0 ∷ 4294967295 ∷ 4294967295 ∷ 4294967295 ∷ 0 ∷ 2
    ∷ 1 ∷ 0 ∷ 4294967295 ∷ 4294967295 ∷ 2 ∷ 1
    ∷ 1 ∷ 1 ∷ 4294967295 ∷ 4294967295 ∷ 3 ∷ 1
    ∷ 2 ∷ 2 ∷ 4294967295 ∷ 4294967295 ∷ 4 ∷ 1
    ∷ 2 ∷ 3 ∷ 4294967295 ∷ 4294967295 ∷ 5 ∷ 1
    ∷ 3 ∷ 5 ∷ 4294967295 ∷ 4294967295 ∷ 6 ∷ 1
    ∷ 3 ∷ 6 ∷ 4294967295 ∷ 4294967295 ∷ 7 ∷ 1 ∷ [])

-- the eight entries: node id, directions and three zero bytes as one word
unfoldable pub world_entries : List ℕ
world_entries = encoded (0 ∷ 0 ∷ 1 ∷ 0 ∷ 2 ∷ 1 ∷ 3 ∷ 1 ∷ 6 ∷ 2 ∷ 5 ∷ 2 ∷ 4 ∷ 2 ∷ 4 ∷ 2 ∷ [])

unfoldable pub world_store : List ℕ
world_store =
    header 7 6 4 7 8 ++ joined_up world_nodes ++ joined_up world_edges ++ joined_up world_constraints ++ world_groups ++ world_entries

-- a pattern node: label, then operator and constant twice
abbrev pub pattern_node : ℕ → ℕ → ℕ → ℕ → ℕ → List ℕ
pattern_node label first x second y = u16_bytes label ++ first ∷ second ∷ u32_bytes x ++ u32_bytes y ++ u32_bytes 0

-- a pattern node without conditions
abbrev pub plain : ℕ → List ℕ
plain label = pattern_node label 0 0 0 0

-- a pattern of these nodes and edges, an edge being two bytes
unfoldable pub pattern : List (List ℕ) → List (List ℕ) → List ℕ
pattern nodes edges =
    encoded (1 ∷ length nodes ∷ length edges ∷ 24 ∷ (24 + length nodes * 16) ∷ (24 + length nodes * 16 + length edges * 2) ∷ [])
    ++ joined_up nodes ++ joined_up edges

-- an edge of a pattern
abbrev pub arc : ℕ → ℕ → List ℕ
arc from to = from ∷ to ∷ []

-- A: locale (= 2), format, field, screen; edges 0→1, 2→1, 3→2
unfoldable pub pattern_a : List ℕ
pattern_a = pattern (pattern_node 1 1 2 0 0 ∷ plain 2 ∷ plain 4 ∷ plain 3 ∷ []) (arc 0 1 ∷ arc 2 1 ∷ arc 3 2 ∷ [])

-- A with its first edge as 1→0
unfoldable pub pattern_turned : List ℕ
pattern_turned = pattern (pattern_node 1 1 2 0 0 ∷ plain 2 ∷ plain 4 ∷ plain 3 ∷ []) (arc 1 0 ∷ arc 2 1 ∷ arc 3 2 ∷ [])

-- locale, format and two fields; edges 0→1, 2→1, 3→1
unfoldable pub two_fields : List ℕ
two_fields = pattern (plain 1 ∷ plain 2 ∷ plain 4 ∷ plain 4 ∷ []) (arc 0 1 ∷ arc 2 1 ∷ arc 3 1 ∷ [])

-- one locale node, and one with > 1 and < 2
unfoldable pub one_locale : List ℕ
one_locale = pattern (plain 1 ∷ []) []

unfoldable pub no_locale : List ℕ
no_locale = pattern (pattern_node 1 3 1 2 2 ∷ []) []

-- two unjoined nodes labelled 1 and 2
unfoldable pub unjoined : List ℕ
unjoined = pattern (plain 1 ∷ plain 2 ∷ []) []

-- locale, format, field; only edge field→format
unfoldable pub field_only : List ℕ
field_only = pattern (plain 1 ∷ plain 2 ∷ plain 4 ∷ []) (arc 2 1 ∷ [])

-- two locales, which no edge joins
unfoldable pub two_locales : List ℕ
two_locales = pattern (plain 1 ∷ plain 1 ∷ []) []

-- one field with > 1 and < 2: no constraint covers it, and no field can meet it
unfoldable pub clashing : List ℕ
clashing = pattern (pattern_node 4 3 1 2 2 ∷ []) []
