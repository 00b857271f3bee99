-- proofs/count/count_all/Answers.antt
use Rattle.std.proofs.Common.{refl}
use Rattle.build_keys.proofs.Index.{placed-count, count-told}
use Rattle.build.proofs.count.count_all.Goals as goal

pub pass-requires : goal.pass-requires
pass-requires c = (c.requires, placed-count _ _ _ refl)

pub returns : goal.returns
returns c = rw c.ok.ensures.value (count-told c.requires.right _ _ _ c.pass.ensures)
