use Rattle.std.proofs.Common.{arith}
use Rattle.build_neighbours.specs.Pairs.{marked}
use Rattle.build_neighbours.proofs.Written.{made-all}
use Rattle.build_neighbours.proofs.pairs.mark.Goals as goal

-- the word is as it was at the start, so it has 16 bits
pub overflow_mul-w : goal.overflow_mul-w
overflow_mul-w c = omega (arith, c.loop-w.invariant.ahead c.loop-w.w-index (omega arith), c.requires c.loop-w.w-index (omega arith))

pub overflow_add-w : goal.overflow_add-w
overflow_add-w c = omega (arith, c.loop-w.invariant.ahead c.loop-w.w-index (omega arith), c.requires c.loop-w.w-index (omega arith))

pub returns : goal.returns
unfolding marked
returns c = made-all marked c.args.words.now c.loop-w.words c.loop-w.auto.words (λ k h. c.loop-w.invariant.marked k (omega arith))
