use Rattle.std.proofs.Common.{refl}
use Rattle.rules.specs.Plan.{row_of}
use Rattle.plan_ways.proofs.row_of.Goals as goal

pub returns : goal.returns
unfolding row_of
returns c = refl
