-- What each of the four calls gives back, for all input: number, results, and the final content of every room.
use Rattle.std.specs.Prelude.{ℕ, ◌+◌, ◌*◌, Bool, true, false, cond, not, ◌&&◌, ◌||◌, ltb, eqb, length, drop, replicate}
use mathlib.Core.List.{List, [], ◌∷◌, ◌++◌, map, flat_map}
use Rattle.std.proofs.Math.Option.{Option, some, none}
use Rattle.rules.specs.Words.{Bytes, Section, Room, over}
use Rattle.rules.specs.Lists.{has}
use Rattle.rules.specs.Store.{header_right, draft_right, records_right, constraints_right, node_part, edge_part, constraint_part, group_part, entry_part}
use Rattle.rules.specs.Index.{exceeds, too_many, store_of}
use Rattle.rules.specs.Pattern.{size_of, edges_of, pattern_right}
use Rattle.rules.specs.Plan.{most_read, rows_of, all_covered, bound, plan_words}
use Rattle.rules.specs.Listing.{Gathered, reader_of, nothing, with_rows, matches_of}

-- the number where its condition holds, else 0
infix 70 ◌when◌
unfoldable pub ◌when◌ : ℕ → Bool → ℕ
number when holds = cond holds number 0

-- an order of refusals: the first number that is given, else 0
unfoldable pub first_of : List ℕ → ℕ
first_of [] = 0
first_of (number ∷ numbers) = elim (eqb number 0) [ true ↦ first_of numbers | false ↦ number ]

-- an outcome: the number, the other results, and as they are left the result room, a second one and the working room; [] where a call has no such room
pub record Outcome : Type 0 where
  pub number : ℕ
  pub results : List ℕ
  pub room : Room
  pub second : Room
  pub work : Room

-- answered: the results, with the answer written over each result room; what lies past it is unchanged
unfoldable pub answered_both : List ℕ → Room → Room → Room → Room → Room → Outcome
answered_both results written also room second work = record { number = 0; results = results; room = over room 0 written; second = over second 0 also; work = work }

-- refused: every other result is 0, and the result rooms are unchanged
unfoldable pub refused_both : ℕ → List ℕ → Room → Room → Room → Outcome
refused_both number results room second work = record { number = number; results = map (λ x. 0) results; room = room; second = second; work = work }

-- by the number: 0 is answered, any other refused
unfoldable pub outcome_both : ℕ → List ℕ → Room → Room → Room → Room → Room → Outcome
outcome_both number results written also room second work =
    elim (eqb number 0) [ true ↦ answered_both results written also room second work | false ↦ refused_both number results room second work ]

-- the same for a call with one result room
abbrev pub outcome : ℕ → List ℕ → Room → Room → Room → Outcome
outcome number results written room work = outcome_both number results written [] room [] work

-- building: 1, 2, 3, 4, 11, 10
unfoldable pub build_number : Bytes → Room → ℕ
build_number draft room = first_of (1 when not (draft_right draft)
    ∷ 2 when not (records_right (node_part draft) (edge_part draft))
    ∷ 3 when not (constraints_right (constraint_part draft))
    ∷ 4 when exceeds draft
    ∷ 11 when too_many draft
    ∷ 10 when ltb (length room) (length (store_of draft)) ∷ [])

-- building gives the length, and writes the store
unfoldable pub build_outcome : Bytes → Room → Outcome
build_outcome draft room = outcome (build_number draft room) (length (store_of draft) ∷ []) (store_of draft) room []

-- two runs of bytes are the same
unfoldable pub same : Bytes → Bytes → Bool
same [] [] = true
same [] (y ∷ ys) = false
same (x ∷ xs) [] = false
same (x ∷ xs) (y ∷ ys) = eqb x y && same xs ys

-- admitting: 1, 2, 3, 4, 5; 5 if building would answer 11, or the index differs from the one built
unfoldable pub admit_number : Bytes → ℕ
admit_number s = first_of (1 when not (header_right s)
    ∷ 2 when not (records_right (node_part s) (edge_part s))
    ∷ 3 when not (constraints_right (constraint_part s))
    ∷ 4 when exceeds s
    ∷ 5 when (too_many s || not (same (store_of s) s)) ∷ [])

-- admitting gives the number alone
unfoldable pub admit_outcome : Bytes → Outcome
admit_outcome s = outcome (admit_number s) [] [] [] []

-- planning: 1, 3, 6, 7, 8, 10
unfoldable pub plan_number : Bytes → Bytes → Room → ℕ
plan_number s b room = first_of (1 when not (header_right s)
    ∷ 3 when not (constraints_right (constraint_part s))
    ∷ 6 when not (pattern_right b)
    ∷ 7 when not (all_covered (constraint_part s) b)
    ∷ 8 when ltb most_read (bound (constraint_part s) b)
    ∷ 10 when ltb (length room) ((size_of b + edges_of b) * 8) ∷ [])

-- planning gives T, and writes the rows
unfoldable pub plan_outcome : Bytes → Bytes → Room → Outcome
plan_outcome s b room = outcome (plan_number s b room) (bound (constraint_part s) b ∷ []) (plan_words (constraint_part s) b) room []

-- what listing reads: the rows of the plan, by the reader of the sections before and after the edges
unfoldable pub gathered : Section → Section → Section → Section → Bytes → Option Gathered
gathered nodes constraints groups entries b =
    with_rows (reader_of nodes constraints groups entries) b (rows_of constraints b) (nothing b)

-- a list read is unfit
unfoldable pub unfit : Option Gathered → Bool
unfit none = true
unfit (some got) = false

-- what was read, nothing where a list is unfit
unfoldable pub got_of : Bytes → Option Gathered → Gathered
got_of b none = nothing b
got_of b (some got) = got

-- listing: 1, 3, 6, 7, 8, 9, 5, 10; the header is right or not
unfoldable pub list_number : Bool → Section → Bytes → Option Gathered → Room → Room → ℕ
list_number right constraints b read work room = first_of (1 when not right
    ∷ 3 when not (constraints_right constraints)
    ∷ 6 when not (pattern_right b)
    ∷ 7 when not (all_covered constraints b)
    ∷ 8 when ltb most_read (bound constraints b)
    ∷ 9 when ltb (length work) (2 * bound constraints b)
    ∷ 5 when unfit read
    ∷ 10 when ltb (length room) (length (matches_of b (got_of b read)) * size_of b) ∷ [])

-- the working room after 0, 5 or 10 has its first 2T words 0 and the rest unchanged; any other answer changes none
unfoldable pub work_after : ℕ → ℕ → Room → Room
work_after number t work = elim (has number (0 ∷ 5 ∷ 10 ∷ [])) [ true ↦ replicate (2 * t) 0 ++ drop (2 * t) work | false ↦ work ]

-- listing gives matches, node entries, edge entries and T, and writes the matches
unfoldable pub listed_by : ℕ → Bytes → ℕ → Gathered → Room → Room → Outcome
listed_by number b t got work room =
    outcome number (length (matches_of b got) ∷ got.nodes ∷ got.edges ∷ t ∷ []) (flat_map (λ row. row) (matches_of b got)) room (work_after number t work)

-- by the sections of a store but for its edges
unfoldable pub sections_outcome : Bool → Section → Section → Section → Section → Bytes → Room → Room → Outcome
sections_outcome right nodes constraints groups entries b work room =
    let read = gathered nodes constraints groups entries b in
    listed_by (list_number right constraints b read work room) b (bound constraints b) (got_of b read) work room

unfoldable pub list_outcome : Bytes → Bytes → Room → Room → Outcome
list_outcome s b work room = sections_outcome (header_right s) (node_part s) (constraint_part s) (group_part s) (entry_part s) b work room
