-- proofs/group_record/Answers.antt
use Rattle.std.proofs.Common.{◌∙◌, arith}
use Rattle.laws.specs.Over.{over-all}
use Rattle.build_groups.proofs.Records.{length-group}
use Rattle.build_groups.proofs.group_record.Goals as goal

pub returns : goal.returns
returns c = c.put_six.ensures ∙ over-all _ _ (rw length-group (omega arith))
