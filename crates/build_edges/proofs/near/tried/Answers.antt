use Rattle.std.proofs.Common.{arith}
use lib.ListN.{length-take}
use Rattle.build_edges.proofs.Nearby.{set-front, few-set, tried-set, tried-all}
use Rattle.build_edges.proofs.near.tried.Goals as goal

pub returns-in-Some : goal.returns-in-Some
returns-in-Some c =
    let few = c.in-Some.ensures.0 in
    let set = c.to_set.ensures in
    let found = set-front _ _ _ _ _ c.in-Some.ensures.1 set.0 set.1.0 in
    (few-set _ _ _ 65536 set.0 set.1.0 c.to_set.auto.words (simp length-take (omega arith)), tried-set c.requires.1.1 found.1)

pub returns-in-None : goal.returns-in-None
returns-in-None c = let done = c.labelled.ensures in (omega arith, tried-all done.1)
