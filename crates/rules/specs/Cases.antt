-- The small world and 01's starred cases, computed: one table over the outcome definitions. Each line is refused if a definition slips. Assumes nothing.
use Rattle.std.specs.Prelude.{ℕ, ◌≡◌, refl, true, false, ◌||◌, length, take, replicate}
use mathlib.Core.List.{List, [], ◌∷◌, ◌++◌, flat_map}
use Rattle.rules.specs.Words.{u16_at, u32_at, encoded, over, signed}
use Rattle.rules.specs.Lists.{range, all_from, any_from, all, any, keep, has, sum, product, choices, padded, insert, sort_of, uniq_after, uniq, set_of, halving}
use Rattle.rules.specs.Store.{counts_right, offsets_right, words_right, header_right, draft_right, node_right, nodes_right, edge_alone, edge_before, edge_right, edges_right, records_right, labels_of, label_after, constraint_alone, alike, constraint_right, constraints_right, header}
use Rattle.rules.specs.Graph.{edge_in, graph_of, store_graph, neighbours, labelled}
use Rattle.rules.specs.Index.{keys_of, list_of, satisfies, directions_of, entries_of, groups_of, index_of, group_bytes, list_bytes, entry_bytes, entry_total, some_exceeds, too_large, store_with, store_index, exceeds, too_many, store_of, draft_of}
use Rattle.rules.specs.Pattern.{pattern_words, pattern_header, condition_right, pattern_node_right, pattern_edge_alone, pattern_edge_before, pattern_edge_right, pattern_right, meets, meets_both, pattern_edge, joined}
use Rattle.rules.specs.Match.{suits, alone, is_match}
use Rattle.rules.specs.Plan.{row_of, chosen_of, covered, covered_with, ways_by, figure_by, smaller, smallest, node_ways, all_ways, figures_after, node_rows_from, node_rows, figures_of, ends_of, other_end, end_ways, edge_ways, listed, edge_rows, rows_of, edge_covered, all_covered, bound, row_words, plan_words}
use Rattle.rules.specs.Listing.{key_of, precedes, equals, low_of, found_at, found, inside, id_right, label_right, rest_right, beyond_right, bits_right, rule_broken, entry_list, read_found, reader_of, read_keys, entries_read, nothing, keys_from, candidates_of, with_node, place_of, bit_set, agrees, pair_of, pairs_in, with_edge, with_row, with_rows, edge_agrees, allowed, matches_from, has_pair, matches_of}
use Rattle.rules.specs.Answers.{◌when◌, first_of, Outcome, answered_both, refused_both, outcome_both, build_number, build_outcome, same, admit_number, admit_outcome, plan_number, plan_outcome, gathered, unfit, got_of, list_number, work_after, listed_by, sections_outcome, list_outcome}
use Rattle.rules.specs.World.{constraint, arc, plain, draft, world_nodes, world_edges, world_constraints, world_draft, world_groups, world_entries, world_store, pattern, pattern_a, pattern_turned, two_fields, one_locale, no_locale, unjoined, field_only, two_locales, clashing}

-- to unfold this is to unfold every definition, so that the cases compute
computes : Unit {0}
unfolding flat_map u16_at u32_at encoded over signed range all_from any_from all any keep has sum product choices padded insert sort_of uniq_after uniq set_of halving counts_right offsets_right words_right header_right draft_right node_right nodes_right edge_alone edge_before edge_right edges_right records_right labels_of label_after constraint_alone alike constraint_right constraints_right header edge_in graph_of store_graph neighbours labelled keys_of list_of satisfies directions_of entries_of groups_of index_of group_bytes list_bytes entry_bytes entry_total some_exceeds too_large store_with store_index exceeds too_many store_of draft_of pattern_words pattern_header condition_right pattern_node_right pattern_edge_alone pattern_edge_before pattern_edge_right pattern_right meets meets_both pattern_edge joined suits alone is_match row_of chosen_of covered covered_with ways_by figure_by smaller smallest node_ways all_ways figures_after node_rows_from node_rows figures_of ends_of other_end end_ways edge_ways listed edge_rows rows_of edge_covered all_covered bound row_words plan_words key_of precedes equals low_of found_at found inside id_right label_right rest_right beyond_right bits_right rule_broken entry_list read_found reader_of read_keys entries_read nothing keys_from candidates_of with_node place_of bit_set agrees pair_of pairs_in with_edge with_row with_rows edge_agrees allowed matches_from has_pair matches_of ◌when◌ first_of answered_both refused_both outcome_both build_number build_outcome same admit_number admit_outcome plan_number plan_outcome gathered unfit got_of list_number work_after listed_by sections_outcome list_outcome draft world_nodes world_edges world_constraints world_draft world_groups world_entries world_store pattern pattern_a pattern_turned two_fields one_locale no_locale unjoined field_only two_locales clashing
computes = tt

-- an outcome by its parts
abbrev gives : ℕ → List ℕ → List ℕ → List ℕ → Outcome
gives number results room work = record { number = number; results = results; room = room; second = []; work = work }

-- a room of n words, each of them 9, and one of n zeros
abbrev nines : ℕ → List ℕ
nines n = replicate n 9

abbrev zeros : ℕ → List ℕ
zeros n = replicate n 0

-- ---- the small world: draft 200 bytes, store 432
draft-length : length world_draft ≡ 200
unfolding computes
draft-length = refl

store-length : length world_store ≡ 432
unfolding computes
store-length = refl

-- 7 groups, 8 entries, and the offsets
store-header : take 48 world_store ≡ encoded (1 ∷ 7 ∷ 6 ∷ 4 ∷ 7 ∷ 8 ∷ 48 ∷ 104 ∷ 152 ∷ 200 ∷ 368 ∷ 432 ∷ [])
unfolding computes
store-header = refl

-- building the draft gives exactly the store, and leaves what lies past it
build-world : build_outcome world_draft (nines 434) ≡ gives 0 (432 ∷ []) (world_store ++ nines 2) []
unfolding computes
build-world = refl

-- a room one byte short
build-short : build_outcome world_draft (nines 431) ≡ gives 10 (0 ∷ []) (nines 431) []
unfolding computes
build-short = refl

-- the store is admitted, the draft is not; the store's draft is the draft
admit-world : admit_outcome world_store ≡ gives 0 [] [] []
unfolding computes
admit-world = refl

admit-draft : admit_outcome world_draft ≡ gives 5 [] [] []
unfolding computes
admit-draft = refl

draft-of-world : draft_of world_store ≡ world_draft
unfolding computes
draft-of-world = refl

-- ---- *A: 94 bytes; figures 2, 2, 8, 8 and 2, 8, 8; T 38
length-A : length pattern_a ≡ 94
unfolding computes
length-A = refl

plan-A : plan_outcome world_store pattern_a (nines 57) ≡ gives 0 (38 ∷ [])
    (0 ∷ 0 ∷ 0 ∷ 0 ∷ 255 ∷ 255 ∷ 255 ∷ 2
    ∷ 0 ∷ 1 ∷ 1 ∷ 1 ∷ 0 ∷ 255 ∷ 255 ∷ 2
    ∷ 0 ∷ 2 ∷ 2 ∷ 2 ∷ 1 ∷ 255 ∷ 255 ∷ 8
    ∷ 0 ∷ 3 ∷ 3 ∷ 3 ∷ 2 ∷ 255 ∷ 255 ∷ 8
    ∷ 1 ∷ 0 ∷ 1 ∷ 1 ∷ 0 ∷ 255 ∷ 255 ∷ 2
    ∷ 1 ∷ 1 ∷ 2 ∷ 2 ∷ 1 ∷ 255 ∷ 255 ∷ 8
    ∷ 1 ∷ 2 ∷ 3 ∷ 3 ∷ 2 ∷ 255 ∷ 255 ∷ 8
    ∷ 9 ∷ []) []
unfolding computes
plan-A = refl

plan-A-short : plan_outcome world_store pattern_a (nines 55) ≡ gives 10 (0 ∷ []) (nines 55) []
unfolding computes
plan-A-short = refl

-- ---- *listing A: 1 match, 5 node entries, 3 edge entries; what lies past 76 working words and 4 result words is unchanged
list-A : list_outcome world_store pattern_a (nines 78) (nines 6)
    ≡ gives 0 (1 ∷ 5 ∷ 3 ∷ 38 ∷ []) (1 ∷ 3 ∷ 5 ∷ 4 ∷ 9 ∷ 9 ∷ []) (zeros 76 ++ nines 2)
unfolding computes
list-A = refl

-- the row is a match by the match rule alone, and with the other field it is none
match-A : is_match (store_graph world_store) pattern_a (1 ∷ 3 ∷ 5 ∷ 4 ∷ []) ≡ true
unfolding computes
match-A = refl

no-match-A : is_match (store_graph world_store) pattern_a (1 ∷ 3 ∷ 6 ∷ 4 ∷ []) ≡ false
unfolding computes
no-match-A = refl

-- *75 working words: 9, and nothing is changed; *76 suffice
list-A-75 : list_outcome world_store pattern_a (nines 75) (nines 6) ≡ gives 9 (0 ∷ 0 ∷ 0 ∷ 0 ∷ []) (nines 6) (nines 75)
unfolding computes
list-A-75 = refl

list-A-76 : list_outcome world_store pattern_a (nines 76) (nines 6)
    ≡ gives 0 (1 ∷ 5 ∷ 3 ∷ 38 ∷ []) (1 ∷ 3 ∷ 5 ∷ 4 ∷ 9 ∷ 9 ∷ []) (zeros 76)
unfolding computes
list-A-76 = refl

-- *3 result words: 10, and the working words are cleared; *4 suffice
list-A-3 : list_outcome world_store pattern_a (nines 77) (nines 3) ≡ gives 10 (0 ∷ 0 ∷ 0 ∷ 0 ∷ []) (nines 3) (zeros 76 ++ nines 1)
unfolding computes
list-A-3 = refl

list-A-4 : list_outcome world_store pattern_a (nines 77) (nines 4)
    ≡ gives 0 (1 ∷ 5 ∷ 3 ∷ 38 ∷ []) (1 ∷ 3 ∷ 5 ∷ 4 ∷ []) (zeros 76 ++ nines 1)
unfolding computes
list-A-4 = refl

-- *A with its first edge as 1→0: a neighbour is no edge the right way round
list-turned : list_outcome world_store pattern_turned (nines 76) (nines 4) ≡ gives 0 (0 ∷ 5 ∷ 3 ∷ 38 ∷ []) (nines 4) (zeros 76)
unfolding computes
list-turned = refl

no-match-turned : is_match (store_graph world_store) pattern_turned (1 ∷ 3 ∷ 5 ∷ 4 ∷ []) ≡ false
unfolding computes
no-match-turned = refl

-- *locale, format and two fields: two pattern nodes are never on one graph node
list-two-fields : list_outcome world_store two_fields (nines 76) (nines 8) ≡ gives 0 (0 ∷ 8 ∷ 6 ∷ 38 ∷ []) (nines 8) (zeros 76)
unfolding computes
list-two-fields = refl

no-match-one-field : is_match (store_graph world_store) two_fields (1 ∷ 3 ∷ 5 ∷ 5 ∷ []) ≡ false
unfolding computes
no-match-one-field = refl

-- two locales: two pattern nodes may bear one label, and symmetric choices count separately
list-two-locales : list_outcome world_store two_locales (nines 8) (nines 5)
    ≡ gives 0 (2 ∷ 4 ∷ 0 ∷ 4 ∷ []) (0 ∷ 1 ∷ 1 ∷ 0 ∷ 9 ∷ []) (zeros 8)
unfolding computes
list-two-locales = refl

match-two-locales : is_match (store_graph world_store) two_locales (1 ∷ 0 ∷ []) ≡ true
unfolding computes
match-two-locales = refl

-- *one locale node: rows 0 and 1
list-locale : list_outcome world_store one_locale (nines 4) (nines 3) ≡ gives 0 (2 ∷ 2 ∷ 0 ∷ 2 ∷ []) (0 ∷ 1 ∷ 9 ∷ []) (zeros 4)
unfolding computes
list-locale = refl

-- *with > 1 and < 2: no row
list-no-locale : list_outcome world_store no_locale (nines 4) (nines 3) ≡ gives 0 (0 ∷ 2 ∷ 0 ∷ 2 ∷ []) (nines 3) (zeros 4)
unfolding computes
list-no-locale = refl

-- ---- *A without the third constraint: 7
unfoldable without_third : List ℕ
without_third = draft world_nodes world_edges (constraint 0 0 0 1 2 ∷ constraint 1 0 0 2 1 ∷ constraint 4 0 0 3 1 ∷ [])

plan-without-third : plan_outcome without_third pattern_a (nines 56) ≡ gives 7 (0 ∷ []) (nines 56) []
unfolding computes without_third
plan-without-third = refl

list-without-third : list_outcome without_third pattern_a (nines 76) (nines 4) ≡ gives 7 (0 ∷ 0 ∷ 0 ∷ 0 ∷ []) (nines 4) (nines 76)
unfolding computes without_third
list-without-third = refl

-- a pattern whose conditions clash, so that neither field is a match, is refused with 7 all the same
plan-clashing : plan_outcome world_store clashing (nines 8) ≡ gives 7 (0 ∷ []) (nines 8) []
unfolding computes
plan-clashing = refl

no-match-clashing : is_match (store_graph world_store) clashing (5 ∷ []) || is_match (store_graph world_store) clashing (6 ∷ []) ≡ false
unfolding computes
no-match-clashing = refl

-- ---- *two unjoined nodes, N 32,768 each: T 65,536; *32,768 and 32,769: 8
unfoldable wide : ℕ → List ℕ
wide n = draft [] [] (constraint 0 0 0 1 32768 ∷ constraint 0 0 0 2 n ∷ [])

plan-unjoined : plan_outcome (wide 32768) unjoined (nines 16) ≡ gives 0 (65536 ∷ [])
    (0 ∷ 0 ∷ 0 ∷ 0 ∷ 255 ∷ 255 ∷ 255 ∷ 32768
    ∷ 0 ∷ 1 ∷ 1 ∷ 1 ∷ 255 ∷ 255 ∷ 255 ∷ 32768 ∷ []) []
unfolding computes wide
plan-unjoined = refl

plan-above : plan_outcome (wide 32769) unjoined (nines 16) ≡ gives 8 (0 ∷ []) (nines 16) []
unfolding computes wide
plan-above = refl

-- listing refuses the second alike; the first it does not, but for the working room
list-above : list_outcome (wide 32769) unjoined (nines 3) (nines 2) ≡ gives 8 (0 ∷ 0 ∷ 0 ∷ 0 ∷ []) (nines 2) (nines 3)
unfolding computes wide
list-above = refl

list-unjoined : list_outcome (wide 32768) unjoined (nines 3) (nines 2) ≡ gives 9 (0 ∷ 0 ∷ 0 ∷ 0 ∷ []) (nines 2) (nines 3)
unfolding computes wide
list-unjoined = refl

-- ---- *∅→(1,1), ∅→(2,1), ∅→(4,3), {1,2}→(4,2); nodes locale, format, field; only edge field→format: 7
unfoldable pair_only : List ℕ
pair_only = draft [] [] (constraint 0 0 0 1 1 ∷ constraint 0 0 0 2 1 ∷ constraint 0 0 0 4 3 ∷ constraint 1 2 0 4 2 ∷ [])

plan-field-only : plan_outcome pair_only field_only (nines 32) ≡ gives 7 (0 ∷ []) (nines 32) []
unfolding computes pair_only
plan-field-only = refl

list-field-only : list_outcome pair_only field_only (nines 32) (nines 3) ≡ gives 7 (0 ∷ 0 ∷ 0 ∷ 0 ∷ []) (nines 3) (nines 32)
unfolding computes pair_only
list-field-only = refl

-- ---- ties: of two ways with one figure the lower constraint, and of two with one constraint the lower chosen node
unfoldable tied : List ℕ
tied = draft [] [] (constraint 0 0 0 1 2 ∷ constraint 0 0 0 2 3 ∷ constraint 1 0 0 3 3 ∷ constraint 2 0 0 3 2 ∷ [])

plan-tied : plan_outcome tied (pattern (plain 1 ∷ plain 1 ∷ plain 2 ∷ plain 3 ∷ []) (arc 3 0 ∷ arc 3 1 ∷ arc 3 2 ∷ [])) (nines 56) ≡ gives 0 (31 ∷ [])
    (0 ∷ 0 ∷ 0 ∷ 0 ∷ 255 ∷ 255 ∷ 255 ∷ 2
    ∷ 0 ∷ 1 ∷ 1 ∷ 0 ∷ 255 ∷ 255 ∷ 255 ∷ 2
    ∷ 0 ∷ 2 ∷ 2 ∷ 1 ∷ 255 ∷ 255 ∷ 255 ∷ 3
    ∷ 0 ∷ 3 ∷ 3 ∷ 2 ∷ 0 ∷ 255 ∷ 255 ∷ 6
    ∷ 1 ∷ 0 ∷ 3 ∷ 2 ∷ 0 ∷ 255 ∷ 255 ∷ 6
    ∷ 1 ∷ 1 ∷ 3 ∷ 2 ∷ 1 ∷ 255 ∷ 255 ∷ 6
    ∷ 1 ∷ 2 ∷ 3 ∷ 3 ∷ 2 ∷ 255 ∷ 255 ∷ 6 ∷ []) []
unfolding computes tied
plan-tied = refl

-- ---- bad input: an empty store, a store cut by one byte, an empty pattern
build-empty : build_outcome [] (nines 3) ≡ gives 1 (0 ∷ []) (nines 3) []
unfolding computes
build-empty = refl

list-empty-store : list_outcome [] pattern_a (nines 76) (nines 4) ≡ gives 1 (0 ∷ 0 ∷ 0 ∷ 0 ∷ []) (nines 4) (nines 76)
unfolding computes
list-empty-store = refl

admit-cut : admit_outcome (take 431 world_store) ≡ gives 1 [] [] []
unfolding computes
admit-cut = refl

list-cut : list_outcome (take 431 world_store) pattern_a (nines 76) (nines 4) ≡ gives 1 (0 ∷ 0 ∷ 0 ∷ 0 ∷ []) (nines 4) (nines 76)
unfolding computes
list-cut = refl

plan-empty-pattern : plan_outcome world_store [] (nines 3) ≡ gives 6 (0 ∷ []) (nines 3) []
unfolding computes
plan-empty-pattern = refl

-- a store of nothing has 48 bytes, and building it gives it back
build-nothing : build_outcome (draft [] [] []) (nines 48) ≡ gives 0 (48 ∷ []) (draft [] [] []) []
unfolding computes
build-nothing = refl

-- a store whose one list of fields for format 3 has lost its direction bits: 5, and the working words are cleared
list-unfit : list_outcome (over world_store 412 (0 ∷ [])) pattern_a (nines 77) (nines 4) ≡ gives 5 (0 ∷ 0 ∷ 0 ∷ 0 ∷ []) (nines 4) (zeros 76 ++ nines 1)
unfolding computes
list-unfit = refl
