use Rattle.rules.specs.Store.{alike}
use Rattle.store_records.proofs.same_labels.Goals as goal

pub returns : goal.returns
unfolding alike
returns c = c.eq.ensures
