-- The first rule that the list breaks is the one that its tests find first. Assumes nothing.
use Rattle.std.proofs.Common.{lt-ltb, le-ltb}
use Rattle.rules.specs.Listing.{rule_broken}
use Rattle.laws.specs.Fitness.{list_rule, inside-room}
use Rattle.laws.specs.Cases.{cond-yes, cond-no, rows}
use Rattle.store_lookup.proofs.fitness.rule_broken.Goals as goal

pub returns-then-not-list_inside : goal.returns-then-not-list_inside
unfolding rule_broken
returns-then-not-list_inside c = search rows

pub returns-then-c-at : goal.returns-then-c-at
unfolding rule_broken
returns-then-c-at c = search (cond-yes, lt-ltb, rows)

pub named_rule-requires : goal.named_rule-requires
named_rule-requires c = search (inside-room, rows)

pub returns : goal.returns
unfolding rule_broken list_rule
returns c = search (cond-no, le-ltb, rows)
