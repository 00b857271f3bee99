-- Keys are ordered by their fields. Assumes nothing.
use Rattle.store_lookup.proofs.Ordered.{told-less}
use Rattle.store_lookup.proofs.keys.group_precedes.Goals as goal

pub returns : goal.returns
returns c = told-less _ _ _ _ _ c.group_key.ensures c.lt.ensures
