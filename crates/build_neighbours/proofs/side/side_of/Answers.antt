use Rattle.std.proofs.Common.{◌∙◌}
use Rattle.build_neighbours.proofs.Sought.{part-arranged, part-side}
use Rattle.build_neighbours.proofs.side.side_of.Goals as goal

pub side-requires : goal.side-requires
side-requires c = (c.requires.0, part-arranged _ _ _ _ c.run_of-words.ensures c.requires.1.0)

pub returns : goal.returns
returns c = c.side.ensures ∙ part-side _ _ _ _ _ c.run_of-words.ensures
