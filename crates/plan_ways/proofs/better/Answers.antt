use Rattle.std.proofs.Common.{sym, lt-ltb, le-ltb}
use Rattle.rules.specs.Plan.{smaller}
use Rattle.laws.specs.Smallest.{better-none}
use Rattle.plan_ways.proofs.better.Goals as goal

pub returns-in_default-None : goal.returns-in_default-None
returns-in_default-None c = rw c.in_default-None.is-1 (sym (better-none _))

pub returns-then-second-first : goal.returns-then-second-first
unfolding smaller
returns-then-second-first c =
    let both = c.in-Some-Some in
    rw (both.is-0, both.is-1, lt-ltb both.second.figure both.first.figure c.if-second-first.true)

pub returns-else-second-first : goal.returns-else-second-first
unfolding smaller
returns-else-second-first c =
    let both = c.in-Some-Some in
    rw (both.is-0, both.is-1, le-ltb both.second.figure both.first.figure c.if-second-first.false)
