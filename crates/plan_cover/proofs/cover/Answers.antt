use Rattle.std.proofs.Common.{arith}
use Rattle.plan_cover.proofs.Told.{left-small, cover-start, cover-stopped, cover-number, cover-again, cover-done}
use Rattle.plan_cover.proofs.cover.Goals as goal

pub loop-init : goal.loop-init
loop-init c = cover-start _ _

pub best_way-requires : goal.best_way-requires
best_way-requires c = left-small c.loop.invariant

pub returns-in_default : goal.returns-in_default
returns-in_default c = cover-stopped c.loop.invariant c.in_default.ensures

pub bounds-figures-row : goal.bounds-figures-row
bounds-figures-row c =
    let n = cover-number _ _ _ c.in-Some.row c.in-Some.ensures in
    omega (arith, c.args.asked.given.known.few)

pub loop-preserved : goal.loop-preserved
loop-preserved c = cover-again _ _ _ c.in-Some.row c.in-Some.ensures c.loop.invariant c.args.asked.given.known.few (omega arith)

pub returns : goal.returns
returns c = cover-done c.loop.invariant (omega arith)
