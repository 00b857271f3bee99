use Rattle.std.proofs.Common.{◌≡◌, arith, sym, length, rules}
use Rattle.std.specs.Prelude.{[]}
use Rattle.std.proofs.lemmas.Result.{err_from_is_err_and}
use lib.Seq.{length-take-le}
use Rattle.laws.specs.Header.{passed-constraints}
use Rattle.plan.proofs.Planning.{few-constraints, plan-part, told-one, told-other, told-ten, told-zero, pattern-long, length-few, length-fits}
use Rattle.plan.proofs.plan.Goals as goal

pub returns-then-not-header_right : goal.returns-then-not-header_right
returns-then-not-header_right c = told-one _ _ _ _ c.header_right.ensures c.if-not-header_right.true

pub constraint_part-requires : goal.constraint_part-requires
constraint_part-requires c = passed-constraints _ _ c.header_right.ensures (search rules)

pub plan_of-requires-clause-few : goal.plan_of-requires-clause-few
plan_of-requires-clause-few c = few-constraints _ _ c.header_right.ensures c.if-not-header_right.false _ c.constraint_part.ensures

pub returns-in_err-size : goal.returns-in_err-size
returns-in_err-size c =
    let e = err_from_is_err_and c.from_residual.result c.from_residual.ensures.1 in
    rw (e.1, e.2) (told-other _ _ _ _ c.header_right.ensures c.if-not-header_right.false _ _ (plan-part _ _ _ _ _ c.constraint_part.ensures c.plan_of.ensures) _ c.in_err-size.was)

pub rows_length-requires : goal.rows_length-requires
rows_length-requires c =
    pattern-long _ _ [] _ c.header_right.ensures c.if-not-header_right.false _ _ (plan-part _ _ _ _ _ c.constraint_part.ensures c.plan_of.ensures) _ c.in_ok-size.was

pub returns-then-room-rows_length : goal.returns-then-room-rows_length
returns-then-room-rows_length c =
    told-ten _ _ _ _ c.header_right.ensures c.if-not-header_right.false _ _ (plan-part _ _ _ _ _ c.constraint_part.ensures c.plan_of.ensures) _ c.in_ok-size.was _ c.rows_length.ensures c.if-room-rows_length.true

pub slice_bounds-rows-end : goal.slice_bounds-rows-end
slice_bounds-rows-end c =
    let few = length-few _ _ [] _ c.header_right.ensures c.if-not-header_right.false _ _ (plan-part _ _ _ _ _ c.constraint_part.ensures c.plan_of.ensures) _ c.in_ok-size.was in
    let l : length c.plan_of.new.rows ≡ 512 = search rules in
    omega arith

pub slice_bounds-copy-end : goal.slice_bounds-copy-end
slice_bounds-copy-end c =
    let few = length-few _ _ [] _ c.header_right.ensures c.if-not-header_right.false _ _ (plan-part _ _ _ _ _ c.constraint_part.ensures c.plan_of.ensures) _ c.in_ok-size.was in
    let l : length c.plan_of.new.rows ≡ 512 = search rules in
    sym (length-take-le _ _ (omega arith))

pub copy-requires : goal.copy-requires
copy-requires c =
    length-fits _ _ c.args.room.now _ c.header_right.ensures c.if-not-header_right.false _ _ (plan-part _ _ _ _ _ c.constraint_part.ensures c.plan_of.ensures) _ c.in_ok-size.was _ c.rows_length.ensures c.if-room-rows_length.false

pub returns : goal.returns
returns c =
    told-zero _ _ _ _ c.header_right.ensures c.if-not-header_right.false _ _ (plan-part _ _ _ _ _ c.constraint_part.ensures c.plan_of.ensures) _ c.in_ok-size.was _ _ c.rows_length.ensures c.if-room-rows_length.false c.copy.ensures
