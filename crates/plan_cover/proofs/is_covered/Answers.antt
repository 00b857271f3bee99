use Rattle.std.proofs.Common.{refl}
use Rattle.rules.specs.Plan.{covered}
use Rattle.plan_cover.proofs.is_covered.Goals as goal

pub returns : goal.returns
unfolding covered
returns c = refl
