use Rattle.std.proofs.Common.{arith}
use Rattle.build_longlist.proofs.Exceeds.{rooms-start, at-told}
use Rattle.build_longlist.proofs.exceed.exceeds_at.Goals as goal

pub exceeds_from-requires : goal.exceeds_from-requires
exceeds_from-requires c = let rest = c.split_at_mut-list.ensures.back_len in rooms-start _ c.requires.1 c.labelled-k.ensures.1 (omega arith)

pub returns : goal.returns
returns c = at-told _ _ _ _ c.constraint_at-d.ensures c.labelled-k.ensures.1 c.exceeds_from.ensures
