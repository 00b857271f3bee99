-- The figures that count each covered node as 1.
use Rattle.std.specs.Prelude.{ℕ, List}
use Rattle.rules.specs.Pattern.{size_of}
use Rattle.rules.specs.Plan.{no_figures}
use Rattle.laws.specs.Covering.{cover_from}

-- 1 for each node that is covered in the end
unfoldable pub ones : List ℕ → List ℕ → List ℕ
ones constraints b = cover_from (λ r. 1) constraints b (size_of b) no_figures
