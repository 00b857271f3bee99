-- What an admitted store is, and a draft that building answers, words of proofs/Numbers. Nothing is proved here.
use Rattle.std.specs.Prelude.{◌≡◌, true, List, ℕ, ◌≤◌, length}
use Rattle.rules.specs.Store.{header_right, draft_right}
use Rattle.rules.specs.Index.{store_of}
use Rattle.laws.specs.Refusals.{graph_number}

-- ---- admitting
-- what an admitted store is: header right, 2, 3, 4 and 11 not given, and the bytes are those that building gives
pub record Sound (s : List ℕ) : Type 0 where
  pub right : header_right s ≡ true
  pub graph : graph_number s ≡ 0
  pub built : store_of s ≡ s

-- ---- building
-- what a draft is that building answers: header right, 2, 3, 4 and 11 not given, and room for the store
pub record Buildable (d room : List ℕ) : Type 0 where
  pub right : draft_right d ≡ true
  pub graph : graph_number d ≡ 0
  pub fits : length (store_of d) ≤ length room
