use Rattle.std.proofs.Common.{arith}
use Rattle.build_longlist.proofs.Sifting.{sift-start, sift-skip, sift-keep, sift-done, part-count}
use Rattle.build_longlist.proofs.exceed.sift.Goals as goal
use Rattle.build_longlist.proofs.exceed.sift.Goals.{then-most-c, else-most-c}

pub loop-i-init : goal.loop-i-init
loop-i-init c = sift-start _

pub loop-i-preserved : goal.loop-i-preserved
loop-i-preserved c =
    let out = c.shared-c in
    let n = part-count _ _ _ _ _ _ out.ensures.0 c.requires.0 c.loop-i.auto.room out.auto.out out.ensures.1 in
    elim c.if-most-c.branch [
      | then-most-c w ↦ rw (w.ids-is, w.k-is) (sift-keep c.loop-i.invariant c.loop-i-test.true _ n w.if-most-c.true)
      | else-most-c w ↦ rw (w.ids-is, w.k-is) (sift-skip c.loop-i.invariant c.loop-i-test.true n w.if-most-c.false)
    ]

pub returns : goal.returns
returns c = sift-done c.loop-i.invariant (omega arith)
