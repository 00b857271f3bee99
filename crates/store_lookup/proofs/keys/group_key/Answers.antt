-- The key of a group is read word by word. Assumes nothing.
use Rattle.store_lookup.specs.Keys.{group_key}
use Rattle.store_lookup.proofs.keys.group_key.Goals as goal

pub returns : goal.returns
unfolding group_key
returns c = cc
