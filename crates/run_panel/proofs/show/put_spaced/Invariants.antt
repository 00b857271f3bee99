-- The ids before this one are written, and the room holds what is left.
use Rattle.run_panel.proofs.Rows.{SpacedLeft}
use Rattle.run_panel.proofs.show.put_spaced.Given as goal

abbrev pub invariant-loop-id : goal.invariant-loop-id
invariant-loop-id l = SpacedLeft l.fn.out l.at l.ids l.out l.past l.id-index
