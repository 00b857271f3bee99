-- What is left of the pass decides the lowest. Assumes nothing.
use Rattle.laws.specs.Fitness.{lowered, lowest_rule}
use Rattle.laws.specs.Loops.{FoldLeft}
use Rattle.store_lookup.specs.Ruled.{number_or}
use Rattle.store_lookup.proofs.fitness.lowest_rule.Given as goal

abbrev pub invariant-loop-i : goal.invariant-loop-i
invariant-loop-i l = FoldLeft (lowered l.nodes l.c l.size l.list) l.count l.i (number_or 8 l.low) (lowest_rule l.nodes l.c l.size l.list l.count)
