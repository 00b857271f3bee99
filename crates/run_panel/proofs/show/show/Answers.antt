-- The line of the answer, and the lines of the matches that the room holds. Assumes nothing.
use Rattle.std.proofs.Common.{◌*◌, ◌≤◌, arith}
use Rattle.run_panel.proofs.Fitting.{refused-shown, empty-shown, some-right, some-fit, some-shown}
use Rattle.run_panel.proofs.show.show.Goals as goal

pub returns-in-Err : goal.returns-in-Err
returns-in-Err c = refused-shown _ _ _ _ _ c.list-answer.ensures _ c.in-Err.is c.requires c.put_answer-at.ensures

pub returns-then-l-eq0 : goal.returns-then-l-eq0
returns-then-l-eq0 c = empty-shown _ _ _ _ _ c.list-answer.ensures _ c.in-Ok.is c.requires c.put_answer-at.ensures c.if-l-eq0.true

pub size_of-requires : goal.size_of-requires
size_of-requires c = omega (arith, (some-right _ _ _ _ _ c.list-answer.ensures _ c.in-Ok.is c.if-l-eq0.false).whole)

pub put_lines-requires : goal.put_lines-requires
put_lines-requires c =
    let right = some-right _ _ _ _ _ c.list-answer.ensures _ c.in-Ok.is c.if-l-eq0.false in
    let fit = some-fit _ _ _ _ _ c.list-answer.ensures _ c.in-Ok.is c.if-l-eq0.false in
    let rows : c.in-Ok.l.matches * c.size_of.result ≤ 1024 = rw c.size_of.ensures fit in (
      omega (arith, right.some, c.size_of.ensures),
      omega (arith, rows, c.list-answer.auto.room),
      omega (arith, rows, c.requires, c.put_answer-at.ensures.0.size, c.put_answer-at.ensures.1),
    )

pub returns : goal.returns
returns c = some-shown _ _ _ _ _ c.list-answer.ensures _ c.in-Ok.is c.requires c.put_answer-at.ensures c.size_of.ensures c.put_lines.ensures
