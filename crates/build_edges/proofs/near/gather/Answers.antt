use Rattle.std.proofs.Common.{arith}
use lib.ListN.{drop_of_length-le}
use Rattle.laws.specs.Slices.{drop-next}
use Rattle.build_edges.proofs.Nearby.{more, gathered}
use Rattle.build_edges.proofs.near.gather.Goals as goal

pub loop-v-preserved : goal.loop-v-preserved
loop-v-preserved c = record {
  few = omega arith;
  state = more (rw (drop-next _ _ c.loop-v-test.true) at c.loop-v.invariant.state) c.words_of-near.ensures c.add_near-k.ensures.1;
}

pub returns : goal.returns
returns c = (c.loop-v.invariant.few, gathered (rw (drop_of_length-le _ {i = c.loop-v.v-index} c.loop-v-test.false) at c.loop-v.invariant.state))
