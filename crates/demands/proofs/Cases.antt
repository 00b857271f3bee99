-- The theorems of this crate at the small world, computed: that their conditions can be met, and that they are needed. Assumes nothing.
use Rattle.std.specs.Prelude.{ℕ, ◌+◌, ◌≡◌, refl, false, length}
use mathlib.Core.List.{List, [], ◌∷◌, flat_map}
use Rattle.std.proofs.Math.Option.{some}
use Rattle.rules.specs.Words.{u16_at, u32_at, encoded, over, signed}
use Rattle.rules.specs.Lists.{range, all_from, any_from, all, any, keep, has, sum, product, choices, padded, insert, sort_of, uniq_after, uniq, set_of, halving}
use Rattle.rules.specs.Store.{counts_right, offsets_right, words_right, header_right, draft_right, node_right, nodes_right, edge_alone, edge_before, edge_right, edges_right, records_right, labels_of, label_after, constraint_alone, alike, constraint_right, constraints_right, header, constraint_part}
use Rattle.rules.specs.Index.{draft_of, keys_of, list_of, satisfies, directions_of, entries_of, groups_of, index_of, group_bytes, list_bytes, entry_bytes, entry_total, some_exceeds, too_large, store_with, store_index, exceeds, too_many, store_of}
use Rattle.rules.specs.Graph.{edge_in, graph_of, store_graph, neighbours, labelled}
use Rattle.rules.specs.Pattern.{pattern_words, pattern_header, condition_right, pattern_node_right, pattern_edge_alone, pattern_edge_before, pattern_edge_right, pattern_right, meets, meets_both, pattern_edge, joined}
use Rattle.rules.specs.Match.{suits, alone, is_match}
use Rattle.rules.specs.Plan.{row_of, chosen_of, covered, covered_with, ways_by, figure_by, smaller, smallest, node_ways, all_ways, figures_after, node_rows_from, node_rows, figures_of, ends_of, other_end, end_ways, edge_ways, listed, edge_rows, rows_of, edge_covered, all_covered, bound, row_words, plan_words}
use Rattle.rules.specs.Listing.{key_of, precedes, equals, low_of, found_at, found, inside, id_right, label_right, rest_right, beyond_right, bits_right, rule_broken, entry_list, read_found, reader_of, read_keys, entries_read, nothing, keys_from, candidates_of, with_node, place_of, bit_set, agrees, pair_of, pairs_in, with_edge, with_row, with_rows, edge_agrees, allowed, matches_from, has_pair, matches_of}
use Rattle.rules.specs.Answers.{◌when◌, first_of, answered_both, refused_both, outcome_both, build_number, build_outcome, same, admit_number, admit_outcome, plan_number, plan_outcome, gathered, unfit, got_of, list_number, work_after, listed_by, sections_outcome, list_outcome}
use Rattle.laws.specs.Refusals.{bound_number}
use Rattle.laws.specs.Outcomes.{sections_refusal}
use Rattle.rules.specs.World.{draft, world_nodes, world_edges, world_constraints, world_draft, world_groups, world_entries, world_store, pattern, pattern_a, pattern_turned, two_fields, one_locale, no_locale, unjoined, field_only, two_locales, clashing}
use Rattle.laws.specs.Every.{Every}
use Rattle.demands.specs.Reads.{keys_read, lists_read, store_reader, store_reads, call_reads, named, AlikeIn, entries_of_reads}
use Rattle.demands.proofs.Local.{admitted-local, call-reads}
use Rattle.demands.specs.EdgesUnread.{edges-unread}
use Rattle.demands.specs.Cases.{nines, zeros, gives, list, other_draft, other_store, valued, turned}

-- to unfold this is to unfold every definition, so that the cases compute
computes : Unit {0}
unfolding flat_map u16_at u32_at encoded over signed range all_from any_from all any keep has sum product choices padded insert sort_of uniq_after uniq set_of halving counts_right offsets_right words_right header_right draft_right node_right nodes_right edge_alone edge_before edge_right edges_right records_right labels_of label_after constraint_alone alike constraint_right constraints_right header edge_in graph_of store_graph neighbours labelled keys_of list_of satisfies directions_of entries_of groups_of index_of group_bytes list_bytes entry_bytes entry_total some_exceeds too_large store_with store_index exceeds too_many store_of draft_of pattern_words pattern_header condition_right pattern_node_right pattern_edge_alone pattern_edge_before pattern_edge_right pattern_right meets meets_both pattern_edge joined suits alone is_match row_of chosen_of covered covered_with ways_by figure_by smaller smallest node_ways all_ways figures_after node_rows_from node_rows figures_of ends_of other_end end_ways edge_ways listed edge_rows rows_of edge_covered all_covered bound row_words plan_words key_of precedes equals low_of found_at found inside id_right label_right rest_right beyond_right bits_right rule_broken entry_list read_found reader_of read_keys entries_read nothing keys_from candidates_of with_node place_of bit_set agrees pair_of pairs_in with_edge with_row with_rows edge_agrees allowed matches_from has_pair matches_of ◌when◌ first_of answered_both refused_both outcome_both build_number build_outcome same admit_number admit_outcome plan_number plan_outcome gathered unfit got_of list_number work_after listed_by sections_outcome list_outcome bound_number sections_refusal draft world_nodes world_edges world_constraints world_draft world_groups world_entries world_store pattern pattern_a pattern_turned two_fields one_locale no_locale unjoined field_only two_locales clashing Every keys_read lists_read store_reads call_reads named entries_of_reads
computes = tt

-- ---- two worlds that are alike in what A reads
-- both are admitted
world-admitted : admit_number world_store ≡ 0
unfolding computes
world-admitted = refl

other-admitted : admit_number other_store ≡ 0
unfolding computes other_draft other_store
other-admitted = refl

-- they are not the same store: it is longer, and format 2 has one more field
other-length : length other_store ≡ 24 + length world_store
unfolding computes other_draft other_store
other-length = refl

world-fields : (store_reader world_store).list 2 (2 ∷ []) ≡ some (record { node = 6; directions = 2 } ∷ [])
unfolding computes
world-fields = refl

other-fields : (store_reader other_store).list 2 (2 ∷ []) ≡ some (record { node = 6; directions = 2 } ∷ record { node = 7; directions = 2 } ∷ [])
unfolding computes other_draft other_store
other-fields = refl

same-constraints : constraint_part world_store ≡ constraint_part other_store
unfolding computes other_draft other_store
same-constraints = refl

-- the seven lists that listing A reads in the small world, one a row
reads-A : store_reads world_store pattern_a
    ≡ list 0 [] ∷ list 1 (1 ∷ []) ∷ list 2 (3 ∷ []) ∷ list 3 (5 ∷ []) ∷ list 1 (1 ∷ []) ∷ list 2 (3 ∷ []) ∷ list 3 (5 ∷ []) ∷ []
unfolding computes
reads-A = refl

-- in these the two worlds are alike
alike-A : Every (AlikeIn (store_reader world_store) (store_reader other_store)) (store_reads world_store pattern_a)
unfolding computes other_draft other_store
alike-A = (
  record { list = refl; values = (refl, (refl, tt)) },
  (
    record { list = refl; values = (refl, tt) },
    (
      record { list = refl; values = (refl, tt) },
      (
        record { list = refl; values = (refl, tt) },
        (
          record { list = refl; values = (refl, tt) },
          (
            record { list = refl; values = (refl, tt) },
            (record { list = refl; values = (refl, tt) }, tt),
          ),
        ),
      ),
    ),
  ),
)

-- so listing A gives one outcome in both, whatever the rooms
local-A : (work room : List ℕ) → list_outcome world_store pattern_a work room ≡ list_outcome other_store pattern_a work room
local-A work room =
    (admitted-local world_store other_store pattern_a work room world-admitted other-admitted same-constraints (call-reads _ world_store pattern_a work alike-A)).0

-- it is an answer with the match, and with the eight entries of the seven lists
answer-A : list_outcome world_store pattern_a (nines 76) (nines 4) ≡ gives 0 (1 ∷ 5 ∷ 3 ∷ 38 ∷ []) (1 ∷ 3 ∷ 5 ∷ 4 ∷ []) (zeros 76)
unfolding computes
answer-A = refl

entries-A : entries_of_reads (store_reader world_store) (call_reads world_store pattern_a (nines 76)) ≡ 8
unfolding computes
entries-A = refl

-- both conditions are needed. Two fields on one format read the list of format 2, in which the two worlds differ: another answer
two-fields-world : (list_outcome world_store two_fields (nines 76) (nines 8)).results ≡ 0 ∷ 8 ∷ 6 ∷ 38 ∷ []
unfolding computes
two-fields-world = refl

two-fields-other : (list_outcome other_store two_fields (nines 76) (nines 8)).results ≡ 2 ∷ 10 ∷ 8 ∷ 38 ∷ []
unfolding computes other_draft other_store
two-fields-other = refl

valued-admitted : admit_number valued ≡ 0
unfolding computes valued
valued-admitted = refl

valued-A : (list_outcome valued pattern_a (nines 76) (nines 4)).results ≡ 0 ∷ 2 ∷ 0 ∷ 38 ∷ []
unfolding computes valued
valued-A = refl

-- ---- a store that is not admitted, where a scan of the edges would give another list
turned-refused : admit_number turned ≡ 5
unfolding computes turned
turned-refused = refl

-- over its edge records the row is no match
turned-no-match : is_match (store_graph turned) pattern_a (1 ∷ 3 ∷ 5 ∷ 4 ∷ []) ≡ false
unfolding computes turned
turned-no-match = refl

-- listing reads none of them, and gives the row as before: this is `edges-unread`, not a computation
turned-listed : (work room : List ℕ) → list_outcome turned pattern_a work room ≡ list_outcome world_store pattern_a work room
unfolding computes turned
turned-listed work room = edges-unread turned world_store pattern_a work room refl refl refl refl refl
