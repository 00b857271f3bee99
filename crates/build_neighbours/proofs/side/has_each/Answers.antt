use Rattle.std.proofs.Common.{rules, tests, ◌≡◌}
use lib.ListN.{length, drop_of_length-le}
use Rattle.laws.specs.Slices.{drop-next}
use Rattle.build_neighbours.proofs.Beside.{ask-start, ask-stop, ask-none, ask-next, ask-done}
use Rattle.build_neighbours.proofs.side.has_each.Goals as goal

pub loop-label-init : goal.loop-label-init
loop-label-init c = ask-start _ _ _ _ _ _

pub returns-then-label-eq0 : goal.returns-then-label-eq0
returns-then-label-eq0 c = ask-stop (rw (drop-next _ _ c.loop-label-test.true) at c.loop-label.invariant) c.if-label-eq0.true

pub returns-then-is_empty : goal.returns-then-is_empty
returns-then-is_empty c =
    let none : length c.side_of.result.now ≡ 0 = search (rules, tests) in
    ask-none c.requires.1 c.requires.0 (rw (drop-next _ _ c.loop-label-test.true) at c.loop-label.invariant) c.if-label-eq0.false c.side_of.ensures none

pub loop-label-preserved : goal.loop-label-preserved
loop-label-preserved c =
    let some : length c.side_of.result.now ≡ 0 → ⊥ = search (rules, tests) in
    ask-next c.requires.1 c.requires.0 (rw (drop-next _ _ c.loop-label-test.true) at c.loop-label.invariant) c.if-label-eq0.false c.side_of.ensures some

pub returns : goal.returns
returns c = ask-done (rw (drop_of_length-le _ {i = c.loop-label.label-index} c.loop-label-test.false) at c.loop-label.invariant)
