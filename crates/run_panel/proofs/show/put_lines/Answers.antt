-- Each row is written where the one before it ends. Assumes nothing.
use Rattle.std.proofs.Common.{◌≡◌, ◌+◌, ◌-◌, ◌*◌, arith}
use Rattle.run_panel.proofs.Rows.{lines-next, lines-done}
use Rattle.run_panel.proofs.show.put_lines.Goals as goal

pub loop-i-preserved : goal.loop-i-preserved
loop-i-preserved c =
    let i = c.loop-i.i in
    let p = c.args.p in
    let row : (i + 1) * p ≡ i * p + p = omega arith in
    let left : c.args.n - (i + 1) ≡ c.args.n - i - 1 = omega arith in
    rw (row, left) (lines-next c.loop-i.invariant (omega arith) c.requires.0 c.put_line-past.ensures)

pub returns : goal.returns
returns c = lines-done c.loop-i.invariant (omega arith)
