-- What it is for an answered listing to read no more entries than T: proofs/Bounded proves it. Nothing is proved here.
use Rattle.std.specs.Prelude.{◌≡◌, List, [], ◌∷◌, ℕ, ◌+◌, ◌≤◌}
use Rattle.rules.specs.Plan.{most_read}
use Rattle.rules.specs.Answers.{plan_outcome, list_outcome}

-- the results of an answered listing: matches, node entries, edge entries and T; the entries together are at most T, T is at most 65,536, and planning gives the same T
pub record Bounded (s b work room : List ℕ) : Type 0 where
  pub matches : ℕ
  pub nodes : ℕ
  pub edges : ℕ
  pub total : ℕ
  pub results : (list_outcome s b work room).results ≡ matches ∷ nodes ∷ edges ∷ total ∷ []
  pub within : nodes + edges ≤ total
  pub small : total ≤ most_read
  pub planned : (plan : List ℕ) → (plan_outcome s b plan).number ≡ 0 → (plan_outcome s b plan).results ≡ total ∷ []
