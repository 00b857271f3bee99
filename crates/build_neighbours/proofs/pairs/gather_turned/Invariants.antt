use Rattle.std.proofs.Common.{◌≤◌, drop}
use mathlib.Core.List.{map}
use Rattle.build_neighbours.specs.Side.{side_in}
use Rattle.build_neighbours.specs.Pairs.{turned}
use Rattle.build_neighbours.proofs.Pairing.{Gathering, turned_of}
use Rattle.build_neighbours.proofs.pairs.gather_turned.Given as goal

abbrev pub invariant-loop-v : goal.invariant-loop-v
invariant-loop-v l = record {
  few : l.k ≤ 65536;
  state : Gathering (λ v. map turned (side_in l.sides.nodes.now l.sides.joined.now v l.s)) (turned_of l.sides.nodes.now l.sides.joined.now l.s l.list) l.out l.k (drop l.v-index l.list);
}
