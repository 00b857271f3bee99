use Rattle.std.proofs.Common.{ℕ, Bool, ◌-◌, ◌≤◌}
use Rattle.rules.specs.Lists.{halving}
use Rattle.laws.specs.Halving.{HalvingLeft}
use Rattle.order_search.specs.Answered.{Answers}
use Rattle.order_search.proofs.first_from.Given as goal

-- whatever the test is, what is left ends where the whole search does
abbrev pub invariant-loop-low : goal.invariant-loop-low
invariant-loop-low g l = record {
  ordered : l.low ≤ l.high;
  inside : l.high ≤ l.count;
  left : (test : ℕ → Bool) → Answers (goal.F-post g l.below) l.count test → HalvingLeft test l.count l.low l.high (halving test l.count 0 l.count);
}

abbrev pub decreases-loop-low : goal.decreases-loop-low
decreases-loop-low g l = l.high - l.low
