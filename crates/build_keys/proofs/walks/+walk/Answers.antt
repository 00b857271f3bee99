-- proofs/walks/+walk/Answers.antt
use Rattle.std.proofs.Common.{rules, arith, refl}
use Rattle.std.proofs.lemmas.Result.{err_from_is_err_and}
use Rattle.build_keys.proofs.Going.{labels-fall, fit-next, scratch-here, begun, ascends, part-short, small, part-kept, taken, broken, ended, none, whole}
use Rattle.build_keys.proofs.walks.+walk.Goals as goal

pub returns-then-list-above : goal.returns-then-list-above
returns-then-list-above t c = none refl c.if-list-above.true

pub returns-then-left-eq0 : goal.returns-then-left-eq0
returns-then-left-eq0 t c = whole c.if-list-above.false c.if-left-eq0.true c.requires.unused c.emit_one.ensures

pub split_at_mut-one-requires : goal.split_at_mut-one-requires
split_at_mut-one-requires t c = let long = scratch-here c.requires c.if-left-eq0.false in omega arith

pub split_at_mut-first-requires : goal.split_at_mut-first-requires
split_at_mut-first-requires t c =
    let long = scratch-here c.requires c.if-left-eq0.false in
    let rest = c.split_at_mut-one.ensures.back_len in
    omega arith

pub paired-n-requires : goal.paired-n-requires
paired-n-requires t c =
    let fit = c.requires in
    let one = c.split_at_mut-one.ensures.front_len in
    let first = c.split_at_mut-first.ensures.front_len in
    ((omega arith, omega arith), (fit.held, fit.listed))

pub loop-i-init : goal.loop-i-init
loop-i-init t c =
    let more = c.if-left-eq0.false in
    let long = c.split_at_mut-first.ensures.front_len in
    let same = c.paired-n.auto.out in
    begun _ c.if-list-above.false more (omega arith) c.paired-n.ensures

pub returns-in_err-t : goal.returns-in_err-t
returns-in_err-t t c =
    let level = c.requires.level in
    let more = c.if-left-eq0.false in
    let g = c.loop-i.invariant in
    let test = c.loop-i-test.true in
    let end = c.run_end-end.ensures in
    let rest = c.rest_of.ensures in
    let fall = labels-fall _ _ more rest in
    let p = err_from_is_err_and c.from_residual.result c.from_residual.ensures.1 in
    rw (p.1, p.2)
    (broken g _ test refl _ end.1 (omega arith) c.with_id-next.ensures rest (part-kept g _ test refl _ end.1 end.0 c.part_of-k.ensures.1) c.in_err-t.ensures)

pub run_end-end-requires : goal.run_end-end-requires
run_end-end-requires t c =
    let g = c.loop-i.invariant in
    let size = g.whole in
    let test = c.loop-i-test.true in
    (omega arith, ascends g)

pub part_of-k-requires : goal.part_of-k-requires
part_of-k-requires t c =
    let fit = c.requires in
    let long = c.split_at_mut-one.ensures.front_len in
    let own = c.paired-n.auto.scratch in
    let same = c.loop-i.auto.one in
    let g = c.loop-i.invariant in
    ((small g _ c.loop-i-test.true refl fit.held.few, (part-short g _ c.run_end-end.ensures.0.1, omega arith)), (fit.held, (fit.short, fit.listed)))

pub overflow_add-at : goal.overflow_add-at
overflow_add-at t c =
    let level = c.requires.level in
    search rules

pub slice_bounds-walk-end : goal.slice_bounds-walk-end
slice_bounds-walk-end t c =
    let fit = c.requires in
    let long = c.split_at_mut-one.ensures.front_len in
    let own = c.paired-n.auto.scratch in
    let same = c.loop-i.auto.one in
    let k = c.part_of-k.ensures.0 in
    let out = c.part_of-k.auto.out in
    search rules

pub walk-requires : goal.walk-requires
walk-requires t c =
    let more = c.if-left-eq0.false in
    let same = c.loop-i.auto.deeper in
    let back = c.split_at_mut-one.ensures.back_len in
    let deeper = c.split_at_mut-first.ensures.back_len in
    let g = c.loop-i.invariant in
    let rest = c.rest_of.ensures in
    let list = part-kept g _ c.loop-i-test.true refl _ c.run_end-end.ensures.1 c.run_end-end.ensures.0 c.part_of-k.ensures.1 in
    let fall = labels-fall _ _ more rest in
    (omega (arith, c.decreases), fit-next _ _ c.requires more c.with_id-next.ensures rest list (omega arith) c.loop-i.auto.room)

pub loop-i-smaller : goal.loop-i-smaller
loop-i-smaller t c =
    let test = c.loop-i-test.true in
    let on = c.run_end-end.ensures.0.0 in
    omega arith

pub loop-i-preserved : goal.loop-i-preserved
loop-i-preserved t c =
    let level = c.requires.level in
    let more = c.if-left-eq0.false in
    let g = c.loop-i.invariant in
    let test = c.loop-i-test.true in
    let end = c.run_end-end.ensures in
    let rest = c.rest_of.ensures in
    let fall = labels-fall _ _ more rest in
    taken g _ test refl _ end.1 (omega arith) c.with_id-next.ensures rest (part-kept g _ test refl _ end.1 end.0 c.part_of-k.ensures.1) c.in_ok-t.ensures

pub returns : goal.returns
returns t c = ended c.loop-i.invariant refl c.loop-i-test.false
