use Rattle.std.proofs.Common.{◌≤◌, drop}
use Rattle.rules.specs.Lists.{keep}
use Rattle.build_edges.specs.Near.{is_labelled, near_of}
use Rattle.build_edges.proofs.Nearby.{Gathered}
use Rattle.build_edges.proofs.near.gather.Given as goal

abbrev pub invariant-loop-v : goal.invariant-loop-v
invariant-loop-v l = record {
  few : l.k ≤ 65536;
  state : Gathered (is_labelled l.nodes l.l) l.joined (keep (is_labelled l.nodes l.l) (near_of l.joined l.list)) l.out l.k (drop l.v-index l.list);
}
