-- `build::number_of_many` meets its contract. Assumes nothing.
use Rattle.build.proofs.Laying.{many-four, many-eleven}
use Rattle.build.proofs.number_of_many.Statement.{statement}
use Rattle.build.proofs.number_of_many.Tie as tie

some-exceeds-requires : tie.Need-some_exceeds-requires
some-exceeds-requires c κs = c.requires.0

returns : tie.Need-returns-then-some_exceeds
returns c =
    let p = c.requires in
    many-four p.0.right p.1 _ c.some_exceeds.ensures c.if-some_exceeds.true

returns-2 : tie.Need-returns
returns-2 c =
    let p = c.requires in
    many-eleven p.0.right p.1 _ c.some_exceeds.ensures c.if-some_exceeds.false

pub number_of_many_spec : {M : Type 1} → statement M
number_of_many_spec = tie.close (tie.spec some-exceeds-requires returns returns-2)
