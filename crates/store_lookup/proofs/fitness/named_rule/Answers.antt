-- The list has its entries, and the lowest of their rules is the list's. Assumes nothing.
use Rattle.std.proofs.Common.{rules}
use Rattle.laws.specs.Fitness.{list-long}
use Rattle.store_lookup.proofs.Lowest.{rule-told}
use Rattle.store_lookup.proofs.fitness.named_rule.Goals as goal

pub lowest_rule-requires : goal.lowest_rule-requires
lowest_rule-requires c = search (list-long, rules)

pub returns : goal.returns
returns c = search (rule-told, rules)
