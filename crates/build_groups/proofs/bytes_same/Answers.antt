-- proofs/bytes_same/Answers.antt
use Rattle.std.proofs.Common.{◌∙◌}
use Rattle.build_groups.proofs.Comparing.{equal-same}
use Rattle.build_groups.proofs.bytes_same.Goals as goal

pub returns : goal.returns
returns c = c.eq.ensures ∙ equal-same _ _
