use Rattle.std.proofs.Common.{arith, length-take}
use Rattle.build_neighbours.proofs.Pairing.{paired-front, paired-all}
use Rattle.build_neighbours.proofs.pairs.paired.Goals as goal

pub returns-in_default : goal.returns-in_default
returns-in_default c = let few = c.requires.1.0.few in let e = c.put_marked.ensures in (omega arith, paired-all e.1)

pub returns : goal.returns
returns c =
    let g = rw c.in-Some.is at c.gather_turned.ensures in
    paired-front c.requires.1.0 c.requires.1.1 _ _ _ _ g.0 g.1 c.sort.ensures.0 (simp length-take (omega arith))
