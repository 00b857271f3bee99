-- proofs/one_agrees/Answers.antt
use Rattle.build_groups.proofs.Emitting.{agree-list, agree-group}
use Rattle.build_groups.proofs.one_agrees.Goals as goal

pub returns-then-bytes_same : goal.returns-then-bytes_same
returns-then-bytes_same c =
    agree-list _ _ _ _ _ _ _ (rw (c.group_place-at.ensures, c.group_record-group.ensures) at c.bytes_same.ensures) c.if-bytes_same.true
    (rw c.entry_place.ensures at c.list_same.ensures)

pub returns-else-bytes_same : goal.returns-else-bytes_same
returns-else-bytes_same c = agree-group _ _ _ _ _ _ _ (rw (c.group_place-at.ensures, c.group_record-group.ensures) at c.bytes_same.ensures) c.if-bytes_same.false
