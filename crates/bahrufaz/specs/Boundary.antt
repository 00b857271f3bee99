-- Outcomes as the C boundary gives them back.
use Rattle.std.specs.Prelude.{ℕ, ◌/◌, ◌%◌, List, [], ◌∷◌, ◌++◌, take, replicate, get_or}
use Rattle.rules.specs.Answers.{Outcome}

-- an outcome whose results stand in 8 words: those that the call names, then zeros
unfoldable pub in_eight : Outcome → Outcome
in_eight o = record { number = o.number; results = take 8 (o.results ++ replicate 8 0); room = o.room; second = o.second; work = o.work }

-- results whose first may be above 32 bits, in 8 words: its lower 32 bits, the next three, zeros, and its upper 32 bits last
unfoldable pub wide : List ℕ → List ℕ
wide results =
    get_or results 0 0 % 4294967296 ∷ get_or results 1 0 ∷ get_or results 2 0 ∷ get_or results 3 0 ∷ 0 ∷ 0 ∷ 0 ∷ get_or results 0 0 / 4294967296 ∷ []

-- an outcome whose results stand in 8 words so
unfoldable pub in_eight_wide : Outcome → Outcome
in_eight_wide o = record { number = o.number; results = wide o.results; room = o.room; second = o.second; work = o.work }

-- what a call has left, as an outcome: the number returned, the 8 words of results, the result room and the working room
abbrev pub left : ℕ → List ℕ → List ℕ → List ℕ → Outcome
left number results room work = record { number = number; results = results; room = room; second = []; work = work }
