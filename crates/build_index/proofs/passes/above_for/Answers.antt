-- proofs/passes/above_for/Answers.antt
use Rattle.std.proofs.Common.{refl}
use Rattle.build_keys.specs.Pass.{above_for}
use Rattle.build_index.proofs.passes.above_for.Goals as goal

pub returns-then-task : goal.returns-then-task
unfolding above_for
returns-then-task c = rw c.if-task.true refl

pub returns-else-task : goal.returns-else-task
unfolding above_for
returns-else-task c = rw c.if-task.false refl
