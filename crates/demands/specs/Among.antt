-- What it is for a row to stand over candidates and pairs, and to begin with the nodes chosen, words of proofs/Among. Nothing is proved here.
use Rattle.std.specs.Prelude.{◌≡◌, Bool}
use Rattle.std.proofs.Math.Bool.{true}
use mathlib.Core.List.{List, [], ◌∷◌, ◌++◌}
use Prim.Native.Nat.{ℕ, ◌+◌, ◌≤◌, ◌<◌}
use Rattle.std.proofs.Math.ListN.{length, take}
use Rattle.rules.specs.Lists.{has}
use Rattle.rules.specs.Match.{image}
use Rattle.rules.specs.Listing.{allowed}

-- ---- which rows
-- a row from its node u on: each image is a candidate, and may stand after the images before it
abbrev pub StandsFrom : List ℕ → (ℕ → List ℕ) → (ℕ → ℕ → ℕ → Bool) → List ℕ → ℕ → Type 0
StandsFrom b c p row k = (u : ℕ) → k ≤ u → u < length row → (has (image row u) (c u) ≡ true) × (allowed b p (take u row) (image row u) ≡ true)

pub record Stands (b : List ℕ) (c : ℕ → List ℕ) (p : ℕ → ℕ → ℕ → Bool) (n : ℕ) (chosen row : List ℕ) : Type 0 where
  pub size : length row ≡ length chosen + n
  pub front : take (length chosen) row ≡ chosen
  pub at : StandsFrom b c p row (length chosen)

-- ---- in which order
-- a row that begins with the chosen
pub record Begins (chosen row : List ℕ) : Type 0 where
  pub rest : List ℕ
  pub is : row ≡ chosen ++ rest

-- a row that begins with the chosen and an id from k on
pub record Later (k : ℕ) (chosen row : List ℕ) : Type 0 where
  pub id : ℕ
  pub low : k ≤ id
  pub begins : Begins (chosen ++ id ∷ []) row
