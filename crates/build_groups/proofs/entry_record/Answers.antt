-- proofs/entry_record/Answers.antt
use Rattle.std.proofs.Common.{refl}
use Rattle.build_groups.proofs.Records.{one-entry}
use Rattle.build_groups.proofs.entry_record.Goals as goal

pub returns : goal.returns
returns c = one-entry _ _ _ _ _ _ c.directions.ensures c.put_u32.ensures refl
