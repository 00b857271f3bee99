-- proofs/passes/visit_from/Answers.antt
use Rattle.std.proofs.Common.{rules, arith}
use Rattle.build_index.proofs.Visiting.{fit-from, from-dealt}
use Rattle.build_index.proofs.passes.visit_from.Goals as goal

pub split_at_mut-one-requires : goal.split_at_mut-one-requires
split_at_mut-one-requires c = let long = c.requires.1.long in omega arith

pub useful-k-requires : goal.useful-k-requires
useful-k-requires c =
    let p = c.requires in
    let one = c.split_at_mut-one.ensures.front_len in
    (p.0.0, (omega arith, p.1.held))

pub slice_bounds-walk-end : goal.slice_bounds-walk-end
slice_bounds-walk-end c =
    let one = c.split_at_mut-one.ensures.front_len in
    let k = c.useful-k.ensures.0 in
    let kept = c.useful-k.auto.out in
    search rules

pub walk-requires : goal.walk-requires
walk-requires c =
    let p = c.requires in
    let rest = c.split_at_mut-one.ensures.back_len in
    fit-from p.1 _ p.0.1.1 _ _ _ p.0.1.0 c.with_id-first.ensures c.useful-k.ensures.1 (omega arith)

pub returns : goal.returns
returns c = from-dealt _ _ _ _ _ _ _ _ _ _ _ _ _ c.with_id-first.ensures c.useful-k.ensures.1 c.walk.ensures
