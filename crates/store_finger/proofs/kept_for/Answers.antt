-- The steps of a search serve each key that is not below its own. Assumes nothing.
use Rattle.store_finger.proofs.Keeping.{kept-steps}
use Rattle.store_finger.proofs.kept_for.Goals as goal

pub climb-requires : goal.climb-requires
climb-requires c = (kept-steps c.args.key _ c.requires c.lt.ensures c.if-lt.false, c.requires.few)
