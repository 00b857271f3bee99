use Rattle.std.proofs.Common.{sym, ap, ◌+◌, ◌<◌, arith}
use Rattle.build_edges.proofs.Starting.{passed, advanced, started}
use Rattle.build_edges.proofs.starts.put_by.Goals as goal
use Rattle.build_edges.proofs.starts.put_by.Goals.{then-v-next, else-v-next}

pub loop-i-preserved : goal.loop-i-preserved
loop-i-preserved g c =
    let low : c.high.result < 65536 = c.requires.halves _ _ c.loop-i-test.true c.high.ensures in
    elim c.if-v-next.branch [
      | then-v-next w ↦ record {
        most = omega arith;
        state = λ words long climbs highs.
            rw (w.starts-is, w.v-is)
            (advanced climbs (c.loop-i.invariant.state words long climbs highs) _ _ (omega arith) (ap (λ n. n + 1) (highs _ _ (omega arith) c.high.ensures)) (omega arith) w.if-v-next.true w.fill.ensures);
      }
      | else-v-next w ↦ record {
        most = omega arith;
        state = λ words long climbs highs.
            rw (w.starts-is, w.v-is)
            (passed (c.loop-i.invariant.state words long climbs highs) _ (omega arith) (ap (λ n. n + 1) (highs _ _ (omega arith) c.high.ensures)) w.if-v-next.false);
      }
    ]

pub returns : goal.returns
returns g c words long climbs highs =
    started climbs (c.loop-i.invariant.state words long climbs highs) _ _ (sym long) c.loop-i-test.false (omega arith) c.fill-2.ensures
