-- What it is for building not to depend on what the room held, a word of proofs/Admitted. Nothing is proved here.
use Rattle.std.specs.Prelude.{◌≡◌, List, ℕ, length, take}
use Rattle.rules.specs.Index.{store_of}
use Rattle.rules.specs.Answers.{build_outcome}

-- ---- what the room held
-- building from d gives the same number and results for the rooms a and b, and if it answers 0, the same bytes at the front of both, as many as the store has
pub record Independent (d a b : List ℕ) : Type 0 where
  pub number : (build_outcome d a).number ≡ (build_outcome d b).number
  pub results : (build_outcome d a).results ≡ (build_outcome d b).results
  pub bytes : (build_outcome d a).number ≡ 0
      → take (length (store_of d)) (build_outcome d a).room ≡ take (length (store_of d)) (build_outcome d b).room
