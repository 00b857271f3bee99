-- The tests stand in the order of the rules. Assumes nothing.
use Rattle.laws.specs.Cases.{rows}
use Rattle.laws.specs.Fitness.{entry_rule, id-below}
use Rattle.store_lookup.proofs.fitness.entry_rule.Goals as goal

pub returns-then-not-id_right : goal.returns-then-not-id_right
unfolding entry_rule
returns-then-not-id_right c = search rows depth 9 fits 9000

pub label_right-requires : goal.label_right-requires
label_right-requires c = search (id-below, rows)

pub returns-then-not-label_right : goal.returns-then-not-label_right
unfolding entry_rule
returns-then-not-label_right c = search rows depth 9 fits 9000

pub returns-then-not-rest_right : goal.returns-then-not-rest_right
unfolding entry_rule
returns-then-not-rest_right c = search rows depth 9 fits 9000

pub returns-then-not-beyond_right : goal.returns-then-not-beyond_right
unfolding entry_rule
returns-then-not-beyond_right c = search rows depth 9 fits 9000

pub returns-then-not-bits_right : goal.returns-then-not-bits_right
unfolding entry_rule
returns-then-not-bits_right c = search rows depth 9 fits 9000

pub returns : goal.returns
unfolding entry_rule
returns c = search rows depth 9 fits 9000
