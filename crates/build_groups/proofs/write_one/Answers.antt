-- proofs/write_one/Answers.antt
use Rattle.build_groups.proofs.Emitting.{wrote-one}
use Rattle.build_groups.proofs.write_one.Goals as goal

pub returns : goal.returns
returns c = wrote-one _ _ _ _ _ _ _ _ _ (rw (c.group_place.ensures, c.group_record-group.ensures) at c.put_bytes.ensures) (rw c.entry_place.ensures at c.put_list.ensures)
