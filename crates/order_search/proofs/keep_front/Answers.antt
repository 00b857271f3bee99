use Rattle.std.proofs.Common.{arith}
use Rattle.order_search.proofs.Kept.{taken, skipped, ended}
use Rattle.order_search.proofs.keep_front.Goals as goal
use Rattle.order_search.proofs.keep_front.Goals.{then-passes, else-passes}

pub loop-i-preserved : goal.loop-i-preserved
loop-i-preserved g c =
    elim c.if-passes.branch [
      | then-passes w ↦ record {
        few = omega arith;
        state = λ words test long reads tests.
            rw (w.out-is, w.kept-is) (taken (c.loop-i.invariant.state words test long reads tests) _ (omega arith) (omega arith) (reads _ _ (omega arith) c.word-x.ensures) (tests _ _ _ (omega arith) c.word-x.ensures w.if-passes.ensures));
      }
      | else-passes w ↦ record {
        few = omega arith;
        state = λ words test long reads tests.
            rw (w.out-is, w.kept-is) (skipped (c.loop-i.invariant.state words test long reads tests) _ (omega arith) (reads _ _ (omega arith) c.word-x.ensures) (tests _ _ _ (omega arith) c.word-x.ensures w.if-passes.ensures));
      }
    ]

pub returns-clause-kept : goal.returns-clause-kept
returns-clause-kept g c words test long reads tests = ended (c.loop-i.invariant.state words test long reads tests) (omega arith)
