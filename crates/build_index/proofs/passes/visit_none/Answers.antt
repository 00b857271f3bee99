-- proofs/passes/visit_none/Answers.antt
use Rattle.std.proofs.Common.{rules, refl, arith}
use Rattle.build_index.proofs.Visiting.{fit-none, none-dealt}
use Rattle.build_index.proofs.passes.visit_none.Goals as goal

pub split_at_mut-one-requires : goal.split_at_mut-one-requires
split_at_mut-one-requires c = let long = c.requires.1.long in omega arith

pub labelled-k-requires : goal.labelled-k-requires
labelled-k-requires c =
    let few = c.requires.1.held.few in
    let one = c.split_at_mut-one.ensures.front_len in
    (omega arith, few)

pub slice_bounds-walk-end : goal.slice_bounds-walk-end
slice_bounds-walk-end c =
    let few = c.requires.1.held.few in
    let one = c.split_at_mut-one.ensures.front_len in
    let k = c.labelled-k.ensures.0 in
    let kept = c.labelled-k.auto.out in
    search rules

pub walk-requires : goal.walk-requires
walk-requires c = fit-none c.requires.1 _ c.requires.0 refl c.labelled-k.ensures.1

pub returns : goal.returns
returns c = none-dealt _ _ _ _ _ _ _ _ _ _ _ refl _ c.labelled-k.ensures.1 c.walk.ensures
