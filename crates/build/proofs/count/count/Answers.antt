-- proofs/count/count/Answers.antt
use Rattle.std.proofs.Common.{refl, arith, sym}
use Rattle.build.proofs.Numbers.{gives-four, gives-eleven, gives-none}
use Rattle.build.proofs.count.count.Goals as goal

pub returns-then-some_above : goal.returns-then-some_above
returns-then-some_above c = (gives-four _ c.requires.right _ c.some_above.ensures c.if-some_above.true, λ z. absurd (omega arith))

pub returns-in_default : goal.returns-in_default
returns-in_default c =
    (gives-eleven _ c.requires.right _ c.some_above.ensures c.if-some_above.false _ (sym c.in_default.ensures) refl, λ z. absurd (omega arith))

pub returns : goal.returns
returns c =
    (gives-none _ c.requires.right _ c.some_above.ensures c.if-some_above.false _ (sym c.in-Some.ensures.0) refl, λ z. c.in-Some.ensures.1)
