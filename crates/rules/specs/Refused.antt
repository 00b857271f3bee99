-- The published number of each refusal, and of what a call gives back.
use Rattle.std.specs.Prelude.{ℕ, Result, Ok, Err}
use Rattle.rules.specs.declared.Refusal.{Refusal}
use Rattle.rules.specs.declared.Refusal.TheVariants.{Header, Record, Constraint, LongList, Unfit, Pattern, Uncovered, Bound, Work, Room, Index}

-- the number of a refusal
abbrev pub refusal_number : Refusal → ℕ
-- header, count limit, offset or length wrong
refusal_number Header = 1
-- a node or edge record breaks its rule
refusal_number Record = 2
-- a constraint breaks its rule
refusal_number Constraint = 3
-- a list of the graph exceeds its N
refusal_number LongList = 4
-- admitting: the index is not the one built; listing: a list read is unfit
refusal_number Unfit = 5
-- the pattern breaks its rules
refusal_number Pattern = 6
-- a pattern node or edge is not covered
refusal_number Uncovered = 7
-- T above 65,536
refusal_number Bound = 8
-- working room below 2T words
refusal_number Work = 9
-- room for the result too short
refusal_number Room = 10
-- the index needs too many groups or entries
refusal_number Index = 11

-- the number of what a call gives back: 0 where it answers
abbrev pub number_of : {A : Type 0} → Result A Refusal → ℕ
number_of (Ok answer) = 0
number_of (Err refusal) = refusal_number refusal

-- the figure that a call answers, 0 where it is refused
abbrev pub figure_of : Result ℕ Refusal → ℕ
figure_of (Ok figure) = figure
figure_of (Err refusal) = 0
