-- The lower of two rules by their order. Assumes nothing.
use Rattle.store_lookup.proofs.Lowest.{lower-first, lower-second, lower-yes, lower-no}
use Rattle.store_lookup.proofs.fitness.lower_of.Goals as goal

pub returns-in_default : goal.returns-in_default
returns-in_default c = lower-first c.args.a c.args.b c.in_default.is

pub returns-in_default-b : goal.returns-in_default-b
returns-in_default-b c = lower-second c.args.a c.args.b _ c.in-Some.is c.in_default-b.is

pub returns-then-lt : goal.returns-then-lt
returns-then-lt c = lower-yes c.args.a c.args.b _ _ c.in-Some.is c.in-Some-b.is _ c.lt.ensures c.if-lt.true

pub returns-else-lt : goal.returns-else-lt
returns-else-lt c = lower-no c.args.a c.args.b _ _ c.in-Some.is c.in-Some-b.is _ c.lt.ensures c.if-lt.false
