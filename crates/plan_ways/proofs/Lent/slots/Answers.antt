use Rattle.plan_ways.specs.Ways.{slots}
use Rattle.plan_ways.proofs.Lent.slots.Goals as goal

pub returns-in_err-first : goal.returns-in_err-first
unfolding slots
returns-in_err-first c = rw (c.from_residual.ensures, ← c.slot.ensures.value, c.in_err-first.was)

pub returns-in_err-second : goal.returns-in_err-second
unfolding slots
returns-in_err-second c =
    rw (c.from_residual-in_err-second.ensures, ← c.slot.ensures.value, ← c.slot-2.ensures.value, c.in_ok-first.was, c.in_err-second.was)

pub returns-in_err-third : goal.returns-in_err-third
unfolding slots
returns-in_err-third c =
    rw (c.from_residual-in_err-third.ensures, ← c.slot.ensures.value, ← c.slot-2.ensures.value, ← c.slot-3.ensures.value, c.in_ok-first.was, c.in_ok-second.was, c.in_err-third.was)

pub returns : goal.returns
unfolding slots
returns c =
    rw (c.row_by.ensures, ← c.slot.ensures.value, ← c.slot-2.ensures.value, ← c.slot-3.ensures.value, c.in_ok-first.was, c.in_ok-second.was, c.in_ok-third.was)
