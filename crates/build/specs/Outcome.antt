-- What building gives back, as an outcome.
use Rattle.std.specs.Prelude.{ℕ, List, [], ◌∷◌}
use Rattle.rules.specs.Answers.{Outcome}

-- a number, a length, and the room as it is left
abbrev pub gave : ℕ → ℕ → List ℕ → Outcome
gave number length room = record { number = number; results = length ∷ []; room = room; second = []; work = [] }
