-- What the program prints.
use Rattle.std.specs.Prelude.{ℕ, zero, suc, List, [], ◌∷◌, ◌++◌, take, drop, replicate, get_or, Result, Ok, Err}
use Rattle.rules.specs.Pattern.{size_of}
use Rattle.rules.specs.Answers.{Outcome, list_outcome}
use Rattle.rules.specs.Refused.{refusal_number}
use Rattle.rules.specs.declared.Refusal.{Refusal}
use Rattle.list_found.specs.declared.Listed.{Listed}
use Rattle.run_text.specs.Text.{decimal}

-- the line of the answer: "answer ", the number, " matches ", " nodes ", " edges " and " bound ", each with its result
unfoldable pub answer_text : ℕ → ℕ → ℕ → ℕ → ℕ → List ℕ
answer_text number matches nodes edges bound =
    ((97 ∷ 110 ∷ 115 ∷ 119 ∷ 101 ∷ 114 ∷ 32 ∷ []) ++ decimal number)
    ++ ((32 ∷ 109 ∷ 97 ∷ 116 ∷ 99 ∷ 104 ∷ 101 ∷ 115 ∷ 32 ∷ []) ++ decimal matches)
    ++ ((32 ∷ 110 ∷ 111 ∷ 100 ∷ 101 ∷ 115 ∷ 32 ∷ []) ++ decimal nodes)
    ++ ((32 ∷ 101 ∷ 100 ∷ 103 ∷ 101 ∷ 115 ∷ 32 ∷ []) ++ decimal edges)
    ++ ((32 ∷ 98 ∷ 111 ∷ 117 ∷ 110 ∷ 100 ∷ 32 ∷ []) ++ decimal bound)
    ++ (10 ∷ [])

-- the line of what listing gives back
abbrev pub answer_line : Result Listed Refusal → List ℕ
answer_line (Ok l) = answer_text 0 l.matches l.nodes l.edges l.bound
answer_line (Err refusal) = answer_text (refusal_number refusal) 0 0 0 0

-- ids, a space before each
unfoldable pub spaced : List ℕ → List ℕ
spaced [] = []
spaced (x ∷ xs) = ((32 ∷ []) ++ decimal x) ++ spaced xs

-- the line of a row: its ids with spaces between
unfoldable pub line : List ℕ → List ℕ
line [] = 10 ∷ []
line (x ∷ xs) = decimal x ++ spaced xs ++ (10 ∷ [])

-- the lines of n rows of p ids
unfoldable pub lines : ℕ → ℕ → List ℕ → List ℕ
lines p zero ids = []
lines p (suc n) ids = line (take p ids) ++ lines p n (drop p ids)

-- an outcome of listing as text: number and results, then a line for each match
unfoldable pub outcome_text : ℕ → Outcome → List ℕ
outcome_text p o =
    answer_text o.number (get_or o.results 0 0) (get_or o.results 1 0) (get_or o.results 2 0) (get_or o.results 3 0)
    ++ lines p (get_or o.results 0 0) o.room

-- what the program prints for these bytes: its rooms are 4,096 and 1,024 words of 0
unfoldable pub panel_text : List ℕ → List ℕ → List ℕ
panel_text s b = outcome_text (size_of b) (list_outcome s b (replicate 4096 0) (replicate 1024 0))
