-- What the program prints for the small world and pattern A, computed; and for bytes that are not kept. Assumes nothing.
use Rattle.std.specs.Prelude.{◌≡◌, refl, false, ℕ}
use mathlib.Core.List.{List, [], ◌∷◌, ◌++◌, flat_map}
use Rattle.rules.specs.Words.{u16_at, u32_at, encoded, over, signed}
use Rattle.rules.specs.Lists.{range, all_from, any_from, all, any, keep, has, sum, product, choices, padded, insert, sort_of, uniq_after, uniq, set_of, halving}
use Rattle.rules.specs.Store.{counts_right, offsets_right, words_right, header_right, labels_of, label_after, constraint_alone, alike, constraint_right, constraints_right, header}
use Rattle.rules.specs.Pattern.{pattern_words, pattern_header, condition_right, pattern_node_right, pattern_edge_alone, pattern_edge_before, pattern_edge_right, pattern_right, meets, meets_both, pattern_edge, joined}
use Rattle.rules.specs.Plan.{row_of, chosen_of, covered, covered_with, ways_by, figure_by, smaller, smallest, node_ways, all_ways, figures_after, node_rows_from, node_rows, figures_of, ends_of, other_end, end_ways, edge_ways, listed, edge_rows, rows_of, edge_covered, all_covered, bound}
use Rattle.rules.specs.Listing.{key_of, precedes, equals, low_of, found_at, found, inside, id_right, label_right, rest_right, beyond_right, bits_right, rule_broken, entry_list, read_found, reader_of, read_keys, entries_read, nothing, keys_from, candidates_of, with_node, place_of, bit_set, agrees, pair_of, pairs_in, with_edge, with_row, with_rows, edge_agrees, allowed, matches_from, has_pair, matches_of}
use Rattle.rules.specs.Answers.{◌when◌, first_of, answered_both, refused_both, outcome_both, gathered, unfit, got_of, list_number, work_after, listed_by, sections_outcome, list_outcome}
use Rattle.rules.specs.World.{world_nodes, world_edges, world_constraints, world_groups, world_entries, world_store, pattern, pattern_a}
use Rattle.run_text.specs.Text.{decimal_in, decimal}
use Rattle.run_panel.specs.Panel.{answer_text, spaced, line, lines, outcome_text, panel_text}

-- to unfold this is to unfold every definition, so that the text computes
computes : Unit {0}
unfolding flat_map u16_at u32_at encoded over signed range all_from any_from all any keep has sum product choices padded insert sort_of uniq_after uniq set_of halving counts_right offsets_right words_right header_right labels_of label_after constraint_alone alike constraint_right constraints_right header pattern_words pattern_header condition_right pattern_node_right pattern_edge_alone pattern_edge_before pattern_edge_right pattern_right meets meets_both pattern_edge joined row_of chosen_of covered covered_with ways_by figure_by smaller smallest node_ways all_ways figures_after node_rows_from node_rows figures_of ends_of other_end end_ways edge_ways listed edge_rows rows_of edge_covered all_covered bound key_of precedes equals low_of found_at found inside id_right label_right rest_right beyond_right bits_right rule_broken entry_list read_found reader_of read_keys entries_read nothing keys_from candidates_of with_node place_of bit_set agrees pair_of pairs_in with_edge with_row with_rows edge_agrees allowed matches_from has_pair matches_of ◌when◌ first_of answered_both refused_both outcome_both gathered unfit got_of list_number work_after listed_by sections_outcome list_outcome world_nodes world_edges world_constraints world_groups world_entries world_store pattern pattern_a decimal_in decimal answer_text spaced line lines outcome_text panel_text
computes = tt

-- "answer 0 matches 1 nodes 5 edges 3 bound 38" and "1 3 5 4", each with its line's end
two_lines : List ℕ
two_lines =
    (97 ∷ 110 ∷ 115 ∷ 119 ∷ 101 ∷ 114 ∷ 32 ∷ 48 ∷ 32 ∷ 109 ∷ 97 ∷ 116 ∷ 99 ∷ 104 ∷ 101 ∷ 115 ∷ 32 ∷ 49 ∷ 32 ∷ 110 ∷ 111 ∷ 100 ∷ 101 ∷ 115 ∷ 32 ∷ 53 ∷ 32 ∷ 101 ∷ 100 ∷ 103 ∷ 101 ∷ 115 ∷ 32 ∷ 51 ∷ 32 ∷ 98 ∷ 111 ∷ 117 ∷ 110 ∷ 100 ∷ 32 ∷ 51 ∷ 56 ∷ 10 ∷ [])
    ++ (49 ∷ 32 ∷ 51 ∷ 32 ∷ 53 ∷ 32 ∷ 52 ∷ 10 ∷ [])

world-shown : panel_text world_store pattern_a ≡ two_lines
unfolding computes two_lines
world-shown = refl

-- a store that is not kept is lent as none: 1, whatever the pattern is
no-store-shown : (b : List ℕ) → panel_text [] b ≡ answer_text 1 0 0 0 0
unfolding computes
no-store-shown b = refl

-- a pattern that is not kept is lent as none, and breaks its rules
no-pattern : pattern_right [] ≡ false
unfolding computes
no-pattern = refl
