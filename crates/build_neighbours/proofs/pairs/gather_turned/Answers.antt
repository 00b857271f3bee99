use Rattle.std.proofs.Common.{arith, refl, ap}
use mathlib.Core.List.{map}
use lib.ListN.{drop_of_length-le}
use Rattle.laws.specs.Slices.{drop-next}
use Rattle.build_neighbours.specs.Pairs.{turned}
use Rattle.build_neighbours.proofs.Pairing.{more, gathered, node-low}
use Rattle.build_neighbours.proofs.pairs.gather_turned.Goals as goal

pub loop-v-init : goal.loop-v-init
loop-v-init c = record { few = omega arith; state = record { todo = refl } }

pub side_of-words-requires : goal.side_of-words-requires
side_of-words-requires c = let held = c.requires.1.0 in (node-low held c.requires.1.1 _ c.loop-v-test.true, (held.arranged, held.begun))

pub loop-v-preserved : goal.loop-v-preserved
loop-v-preserved c = record {
  few = omega arith;
  state = more (rw (drop-next _ _ c.loop-v-test.true) at c.loop-v.invariant.state) (ap (map turned) c.side_of-words.ensures) c.add_turned-k.ensures.1;
}

pub returns : goal.returns
returns c = (c.loop-v.invariant.few, gathered (rw (drop_of_length-le _ {i = c.loop-v.v-index} c.loop-v-test.false) at c.loop-v.invariant.state))
