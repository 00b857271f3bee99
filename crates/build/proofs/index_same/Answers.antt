-- proofs/index_same/Answers.antt
use Rattle.std.proofs.Common.{arith, ◌∙◌}
use Rattle.build.proofs.Admitted.{placed-compare, index-compared}
use Rattle.build.proofs.index_same.Goals as goal

pub pass-t-requires : goal.pass-t-requires
pass-t-requires c =
    let e = c.groups_at-table.ensures in
    let h = c.requires.1.1.1 in
    (c.requires.0, placed-compare _ _ _ _ _ (omega arith))

pub returns : goal.returns
returns c =
    c.is_ok.ensures.value ∙ index-compared c.requires.0.right _ _ _ _ _ _ c.groups_at-table.ensures c.requires.1.0 c.requires.1.1.0 c.requires.1.1.1 c.pass-t.ensures
