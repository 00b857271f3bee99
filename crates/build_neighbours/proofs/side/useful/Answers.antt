use Rattle.std.proofs.Common.{arith}
use Rattle.build_neighbours.proofs.Beside.{few-words, low-words, kept-lows}
use Rattle.build_neighbours.proofs.side.useful.Goals as goal

pub keep_useful-requires : goal.keep_useful-requires
keep_useful-requires c =
    let e = c.side_of-words.ensures in
    let k = few-words c.requires.1.1 c.requires.0 _ e in
    (omega arith, (low-words c.requires.1.1 c.requires.0 _ e, c.requires.1.1))

pub returns : goal.returns
returns c =
    let e = c.side_of-words.ensures in
    let k = few-words c.requires.1.1 c.requires.0 _ e in
    (omega arith, kept-lows c.requires.1.1 c.requires.0 _ _ e c.keep_useful.ensures.1)
