-- Each id is written where the one before it ends. Assumes nothing.
use Rattle.run_panel.proofs.Rows.{spaced-next, spaced-done}
use Rattle.run_panel.proofs.show.put_spaced.Goals as goal

pub loop-id-preserved : goal.loop-id-preserved
loop-id-preserved c = spaced-next c.loop-id.invariant c.loop-id-test.true _ c.from.ensures _ _ c.put_named-past.ensures.0

pub returns : goal.returns
returns c = spaced-done c.loop-id.invariant c.loop-id-test.false
