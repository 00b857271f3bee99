-- proofs/put_six/Answers.antt
use Rattle.build_groups.proofs.Records.{six-words}
use Rattle.build_groups.proofs.put_six.Goals as goal

pub returns : goal.returns
returns c =
    six-words _ _ _ _ _ _ _ _ _ _ _ _ _ _ c.requires c.put_u32.ensures c.put_u32-2.ensures c.put_u32-3.ensures c.put_u32-4.ensures c.put_u32-5.ensures
    c.put_u32-6.ensures
