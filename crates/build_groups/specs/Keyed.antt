-- Keys with their lists, one label of S after another: what the walk over keys goes through.
use Rattle.std.specs.Prelude.{ℕ, Bool, cond, ltb, length}
use mathlib.Core.List.{List, [], ◌∷◌, ◌++◌, flat_map}
use Rattle.rules.specs.Lists.{keep}

-- a key and its list
pub record Keyed : Type 0 where
  pub key : List ℕ
  pub list : List ℕ

-- the keys that go on from `key` with nodes of these labels, and have a list longer than t; `list` is the list of `key`
unfoldable pub keyed_from : (ℕ → ℕ → Bool) → (ℕ → List ℕ) → ℕ → List ℕ → List ℕ → List ℕ → List Keyed
keyed_from joined labelled t [] key list = cond (ltb t (length list)) (record { key = key; list = list } ∷ []) []
keyed_from joined labelled t (s ∷ labels) key list =
    cond (ltb t (length list)) (flat_map (λ u. keyed_from joined labelled t labels (key ++ u ∷ []) (keep (joined u) list)) (labelled s)) []
