use Rattle.rules.specs.Store.{constraint_alone}
use Rattle.store_records.proofs.constraint_alone.Goals as goal

pub returns : goal.returns
unfolding constraint_alone
returns c = cc
