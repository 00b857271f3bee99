use Rattle.std.proofs.Common.{arith}
use Rattle.build_neighbours.proofs.Pairing.{shared-side, shared-list}
use Rattle.build_neighbours.proofs.pairs.shared.Goals as goal

pub returns-then-words-list : goal.returns-then-words-list
returns-then-words-list c = let r = c.requires in (omega arith, shared-side r.1.0 r.1.1.1 _ r.0.0 c.side_of-words.ensures c.shared_near.ensures.1)

pub returns : goal.returns
returns c = let r = c.requires in (omega arith, shared-list r.1.0 r.1.1.1 _ r.0.0 c.side_of-words.ensures c.shared_listed.ensures.1)
