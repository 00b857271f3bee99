-- A plan as a value: T, and the words of its rows; or a refusal.
use Rattle.std.specs.Prelude.{ℕ, cond, List, [], ◌∷◌, leb, length, replicate, Result, Ok, Err}
use Rattle.rules.specs.Words.{over}
use Rattle.rules.specs.Store.{constraints_right}
use Rattle.rules.specs.Pattern.{pattern_right}
use Rattle.rules.specs.Plan.{most_read, all_covered, bound, plan_words}
use Rattle.rules.specs.Answers.{Outcome}
use Rattle.rules.specs.Refused.{number_of, figure_of}
use Rattle.rules.specs.declared.Refusal.{Refusal}
use Rattle.rules.specs.declared.Refusal.TheVariants.{Constraint, Pattern, Uncovered, Bound}
use Rattle.plan.specs.declared.PlanRows.{PlanRows}
use Rattle.plan.specs.declared.Size.{Size}

-- a plan by its size and the room with its rows
abbrev pub planned : Result Size Refusal → List ℕ → Result PlanRows Refusal
planned (Ok size) rows = Ok (record { bound = size.bound; length = size.length; rows = rows })
planned (Err refusal) rows = Err refusal

-- the plan that is answered
unfoldable pub answered_plan : List ℕ → List ℕ → PlanRows
answered_plan constraints b = record { bound = bound constraints b; length = length (plan_words constraints b); rows = over (replicate 512 0) 0 (plan_words constraints b) }

-- by 8, 7, 6 and 3, from the last to the first
unfoldable pub bounded_plan : List ℕ → List ℕ → Result PlanRows Refusal
bounded_plan constraints b = cond (leb (bound constraints b) most_read) (Ok (answered_plan constraints b)) (Err Bound)

unfoldable pub covered_plan : List ℕ → List ℕ → Result PlanRows Refusal
covered_plan constraints b = cond (all_covered constraints b) (bounded_plan constraints b) (Err Uncovered)

unfoldable pub plan_of : List ℕ → List ℕ → Result PlanRows Refusal
plan_of constraints b = cond (constraints_right constraints) (cond (pattern_right b) (covered_plan constraints b) (Err Pattern)) (Err Constraint)

-- an answer of planning with its room, as an outcome
abbrev pub plan_told : Result ℕ Refusal → List ℕ → Outcome
plan_told r room = record { number = number_of r; results = figure_of r ∷ []; room = room; second = []; work = [] }
