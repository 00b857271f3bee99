use Rattle.laws.specs.Loops.{any-start, any-next, any-stop, any-done}
use Rattle.build_longlist.specs.Exceed.{exceeds_in}
use Rattle.build_longlist.proofs.exceed.exceeds_in.Goals as goal

pub loop-c-init : goal.loop-c-init
unfolding exceeds_in
loop-c-init c = any-start _ _

pub returns-then-exceeds_at : goal.returns-then-exceeds_at
returns-then-exceeds_at c = any-stop c.loop-c.invariant c.loop-c-test.true c.exceeds_at.ensures c.if-exceeds_at.true

pub loop-c-preserved : goal.loop-c-preserved
loop-c-preserved c = any-next c.loop-c.invariant c.loop-c-test.true c.exceeds_at.ensures c.if-exceeds_at.false

pub returns : goal.returns
returns c = any-done c.loop-c.invariant c.loop-c-test.false
