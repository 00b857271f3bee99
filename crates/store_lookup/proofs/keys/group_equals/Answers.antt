-- Equal keys are equal field by field. Assumes nothing.

use Rattle.store_lookup.proofs.Ordered.{told-equal}
use Rattle.store_lookup.proofs.keys.group_equals.Goals as goal

pub returns : goal.returns
returns c = told-equal _ _ _ _ _ c.group_key.ensures c.eq.ensures
