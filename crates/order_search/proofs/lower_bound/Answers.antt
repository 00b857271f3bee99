use Rattle.std.proofs.Common.{rules, tests}
use Rattle.laws.specs.Searching.{is_below, lower}
use Rattle.order_search.proofs.lower_bound.Goals as goal

pub returns : goal.returns
unfolding lower
returns c = (c.first_from.ensures.search (is_below c.args.words.now c.args.x) (λ i r h called. search (rules, tests)), c.first_from.ensures.within)
