use Rattle.std.proofs.Common.{arith, ap, ◌∙◌}
use mathlib.Core.List.{map}
use lib.Seq.{take_at, length-take-le}
use Rattle.build_neighbours.specs.Pairs.{marked}
use Rattle.build_neighbours.proofs.Pairing.{labelled-low}
use Rattle.build_neighbours.proofs.pairs.put_marked.Goals as goal

pub mark-requires : goal.mark-requires
mark-requires c = labelled-low _ c.args.s _ c.requires.1 c.labelled-n.ensures.1

pub returns : goal.returns
returns c =
    let n = c.labelled-n.ensures in
    (n.0, take_at _ _ _ (c.mark.auto.words ∙ length-take-le c.labelled-n.result c.labelled-n.new.out (omega arith)) ∙ c.mark.ensures ∙ ap (map marked) n.1)
