-- Each entry lowers what was found so far. Assumes nothing.
use Rattle.std.proofs.Common.{ap, ◌∙◌}
use Rattle.laws.specs.Fitness.{lower, lowered, lowest_rule}
use Rattle.laws.specs.Loops.{fold-next}
use Rattle.laws.specs.Turns.{turns}
use Rattle.store_lookup.proofs.fitness.lowest_rule.Goals as goal

pub loop-i-init : goal.loop-i-init
unfolding lowest_rule
loop-i-init c = search turns

pub loop-i-preserved : goal.loop-i-preserved
unfolding lowered
loop-i-preserved c = fold-next c.loop-i.invariant _ c.loop-i-test.true (c.lower_of-low.ensures ∙ ap (lower _) c.entry_rule.ensures)

pub returns : goal.returns
returns c = search turns
