-- The parts of the line, written one after the other. Assumes nothing.
use Rattle.run_panel.proofs.Rows.{answer-written}
use Rattle.run_panel.proofs.Fitting.{line-told}
use Rattle.run_panel.proofs.show.put_answer.Goals as goal

pub returns : goal.returns
returns c =
    let line = line-told _ _ _ c.number_of.ensures c.unwrap_or-l.ensures in
    rw (← line)
    (answer-written _ _ _ _ _ _ _ _ _ c.requires c.from-number.ensures c.from.ensures c.from-2.ensures c.from-3.ensures c.put_named-at.ensures c.put_named-at-2.ensures c.put_named-at-3.ensures c.put_named-at-4.ensures c.put_named-at-5.ensures c.put.ensures)
