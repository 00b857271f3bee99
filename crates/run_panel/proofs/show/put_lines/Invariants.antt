-- The rows before this one are written, and ids and room are left for the others.
use Rattle.std.proofs.Common.{◌*◌, ◌-◌}
use Rattle.run_panel.proofs.Rows.{LinesLeft}
use Rattle.run_panel.proofs.show.put_lines.Given as goal

abbrev pub invariant-loop-i : goal.invariant-loop-i
invariant-loop-i l = LinesLeft l.fn.out l.at l.ids l.p l.n l.out l.past (l.i * l.p) (l.n - l.i)
