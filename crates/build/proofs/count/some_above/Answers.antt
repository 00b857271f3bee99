-- proofs/count/some_above/Answers.antt
use Rattle.std.proofs.Common.{refl, ◌∙◌}
use Rattle.build_keys.proofs.Index.{placed-count, exceeds-told}
use Rattle.build.proofs.count.some_above.Goals as goal

pub pass-t-requires : goal.pass-t-requires
pass-t-requires c = (c.requires, placed-count _ _ _ refl)

pub returns : goal.returns
returns c = c.is_err.ensures.value ∙ exceeds-told c.requires.right _ _ _ c.pass-t.ensures
