-- Where the search ends is what is found. Assumes nothing.
use Rattle.store_finger.proofs.Keeping.{found-from}
use Rattle.store_finger.proofs.find_from.Goals as goal

pub returns : goal.returns
returns c = (found-from c.args.groups.now c.args.key _ _ c.lowest_from.ensures.0 c.found_at.ensures, c.lowest_from.ensures.1)
