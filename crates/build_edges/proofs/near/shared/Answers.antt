use Rattle.std.proofs.Common.{arith}
use Rattle.build_edges.proofs.Nearby.{shared-from}
use Rattle.build_edges.proofs.near.shared.Goals as goal

pub returns-then-near-list : goal.returns-then-near-list
returns-then-near-list c =
    let done = c.shared_near.ensures in
    (omega arith, shared-from _ _ _ _ _ c.words_of-near.ensures done.1 c.requires.1.0 c.requires.1.1 (omega arith))
