use Rattle.rules.specs.Store.{label_after}
use Rattle.store_records.proofs.label_after.Goals as goal

pub returns : goal.returns
unfolding label_after
returns c = cc
