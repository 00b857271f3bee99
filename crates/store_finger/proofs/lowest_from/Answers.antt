-- The steps that serve the key are those of a search for it. Assumes nothing.
use Rattle.store_finger.proofs.Keeping.{kept-going}
use Rattle.store_finger.proofs.lowest_from.Goals as goal

pub descend-requires : goal.descend-requires
descend-requires c =
    let k = c.kept_for-finger.ensures in
    (rw c.start_at-start.ensures (kept-going c.requires.1 k), record { few = k.few; steps = k.steps }, c.requires.1)
