-- The labels of S that are left.
use Rattle.std.specs.Prelude.{ℕ, cond, List, [], ◌∷◌, eqb}
use Rattle.build_neighbours.specs.declared.Labels.{Labels}

-- the labels up to the first zero
unfoldable pub labels_left : ℕ → ℕ → ℕ → List ℕ
labels_left a b c = cond (eqb a 0) [] (a ∷ cond (eqb b 0) [] (b ∷ cond (eqb c 0) [] (c ∷ [])))

abbrev pub labels_in : Labels → List ℕ
labels_in left = labels_left left.first left.second left.third
