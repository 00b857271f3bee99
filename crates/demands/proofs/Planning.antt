-- Planning looks at the pattern and the constraints alone. Assumes nothing.
use Rattle.std.specs.Prelude.{◌≡◌, true, List, ℕ}
use Rattle.rules.specs.Store.{header_right, constraint_part}
use Rattle.rules.specs.Answers.{plan_number, plan_outcome}

-- Planning does not depend on nodes, edges or index: two stores whose headers are right and whose constraint sections are equal give one outcome for the same pattern and the same room.
pub planning-alike : (s t b room : List ℕ) → header_right s ≡ true → header_right t ≡ true → constraint_part s ≡ constraint_part t
    → plan_outcome s b room ≡ plan_outcome t b room
unfolding plan_outcome plan_number
planning-alike s t b room hs ht same = rw (hs, ht, same)
