-- proofs/is_within/Answers.antt
use Rattle.std.proofs.Common.{refl}
use Rattle.build_groups.specs.Emit.{within}
use Rattle.build_groups.proofs.is_within.Goals as goal

pub returns : goal.returns
unfolding within
returns c = rw (c.from.ensures, c.from-2.ensures, c.from-3.ensures) refl
