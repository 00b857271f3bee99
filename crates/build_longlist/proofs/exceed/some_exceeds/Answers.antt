use Rattle.std.proofs.Common.{rules}
use Rattle.laws.specs.Rooms.{new-fits, new-long}
use Rattle.build_keys.proofs.Index.{right-sound}
use Rattle.build_longlist.proofs.Exceeds.{ample-own, exceeds-told}
use Rattle.build_longlist.proofs.exceed.some_exceeds.Goals as goal

pub node_part-nodes-requires : goal.node_part-nodes-requires
node_part-nodes-requires c = let sound = right-sound c.requires.right in search rules

pub constraint_part-constraints-requires : goal.constraint_part-constraints-requires
constraint_part-constraints-requires c = let sound = right-sound c.requires.right in search rules

pub exceeds_in-requires : goal.exceeds_in-requires
exceeds_in-requires c = ample-own _ _ c.requires c.node_part-nodes.ensures c.constraint_part-constraints.ensures (new-fits 458752 0)

pub returns : goal.returns
returns c = exceeds-told c.requires.right c.requires.words c.node_part-nodes.ensures c.constraint_part-constraints.ensures c.exceeds_in.ensures

pub slice_bounds-exceeds_in-end : goal.slice_bounds-exceeds_in-end
slice_bounds-exceeds_in-end c = new-long 458752 0
