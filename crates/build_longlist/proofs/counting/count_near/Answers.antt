use Rattle.std.proofs.Common.{arith}
use mathlib.Core.Bool.{true≢false, false≢true}
use Rattle.build_longlist.proofs.Counts.{meet-start, meet-fits, meet-few, meet-other, meet-stop, meet-done}
use Rattle.build_longlist.proofs.counting.count_near.Goals as goal
use Rattle.build_longlist.proofs.counting.count_near.Goals.{then-most-c+else-is_labelled, else-most-c}

pub loop-w-init : goal.loop-w-init
loop-w-init c = meet-start c.requires.1.1

pub overflow_add-c : goal.overflow_add-c
overflow_add-c c = let k = meet-fits c.loop-w.invariant c.loop-w-test.true c.requires.1.0 in omega arith

pub returns-then-is_labelled : goal.returns-then-is_labelled
returns-then-is_labelled c = (λ z. meet-stop c.loop-w.invariant c.loop-w-test.true c.if-most-c.true c.is_labelled.ensures c.if-is_labelled.true, λ z. absurd (true≢false z))

pub loop-w-preserved : goal.loop-w-preserved
loop-w-preserved c =
    elim c.if-most-c.branch [
      | then-most-c+else-is_labelled w ↦ meet-other c.loop-w.invariant c.loop-w-test.true c.requires.0 w.is_labelled.ensures w.if-is_labelled.false
      | else-most-c w ↦ meet-few c.loop-w.invariant c.loop-w-test.true c.requires.0 w.if-most-c.false
    ]

pub returns : goal.returns
returns c = (λ z. absurd (false≢true z), λ z. meet-done c.loop-w.invariant c.loop-w-test.false)
