-- proofs/passes/visit_each/Answers.antt
use Rattle.std.proofs.Common.{sym, ◌∙◌, arith}
use Rattle.std.proofs.lemmas.Result.{err_from_is_err_and}
use Rattle.build_index.proofs.Visiting.{left-start, left-skip, left-take, left-broken, left-none, ready-same}
use Rattle.build_index.proofs.passes.visit_each.Goals as goal
use Rattle.build_index.proofs.passes.visit_each.Goals.{then-has_label+in_ok-t, else-has_label}

pub loop-u-init : goal.loop-u-init
loop-u-init c = left-start _ _ _ _ _ _ _ _ _ _ _ _

pub returns-in_err-t : goal.returns-in_err-t
returns-in_err-t c =
    let p = err_from_is_err_and c.from_residual.result c.from_residual.ensures.1 in
    rw (p.1, p.2)
    (left-broken _ _ _ _ _ _ _ _ _ _ c.loop-u.invariant c.loop-u-test.true (sym c.has_label.ensures ∙ c.if-has_label.true) c.in_err-t.ensures)

pub visit_from-requires : goal.visit_from-requires
visit_from-requires c =
    let p = c.requires in
    let few = p.1.held.few in
    let test = c.loop-u-test.true in
    let kept = c.loop-u.auto in
    ((omega arith, p.0), ready-same p.1 kept.scratch kept.room)

pub loop-u-preserved : goal.loop-u-preserved
loop-u-preserved c =
    elim c.if-has_label.branch [
      | then-has_label+in_ok-t w ↦
          rw (w.t-is, w.room-is)
          (left-take _ _ _ _ _ _ _ _ _ _ c.loop-u.invariant c.loop-u-test.true (sym c.has_label.ensures ∙ w.if-has_label.true) w.in_ok-t.ensures)
      | else-has_label w ↦
          rw (w.t-is, w.room-is) (left-skip _ _ _ _ _ _ _ _ _ _ c.loop-u.invariant c.loop-u-test.true (sym c.has_label.ensures ∙ w.if-has_label.false))
    ]

pub returns : goal.returns
returns c = left-none _ _ _ _ _ _ _ _ _ _ c.loop-u.invariant c.loop-u-test.false
