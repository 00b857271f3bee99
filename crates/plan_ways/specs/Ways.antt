-- The best way, the slots of a constraint's labels, and the row that they make.
use Rattle.std.specs.Prelude.{ℕ, ◌+◌, ◌*◌, ◌≤◌, ◌<◌, ◌≡◌, Bool, true, cond, not, ◌&&◌, ◌||◌, List, map, eqb, length, get_or, Some, None, IfSome}
use Rattle.std.specs.Prelude as code
use Rattle.std.proofs.Math.Option.{Option, some, none}
use Rattle.rules.specs.Words.{Ids}
use Rattle.rules.specs.Pattern.{size_of, edges_of, pattern_label, pattern_from, pattern_to, joined}
use Rattle.rules.specs.Lists.{keep, has}
use Rattle.rules.specs.Store.{constraints_in, constraint_at, constraint_alone}
use Rattle.rules.specs.Plan.{row_of, figure_of, covered, covered_with, ways_by, figure_by}
use Rattle.rules.specs.declared.Constraint.{Constraint}
use Rattle.laws.specs.Table.{Neighbours}
use Rattle.laws.specs.Least.{least}
use Rattle.laws.specs.Choices.{narrow}
use Rattle.rules.specs.declared.Row.{Row}
use Rattle.plan_ways.specs.declared.Chosen.{Chosen}

-- the way that was found, if one was
abbrev pub way_in : code.Option Row → Option Row
way_in None = none
way_in (Some r) = some r

-- the slot of a label, with the best node for it; label 0 asks for none
unfoldable pub taken : Option Row → code.Option Chosen
taken none = None
taken (some r) = Some (record { node = r.number; figure = r.figure })

unfoldable pub slot_of : ℕ → Option Row → code.Option Chosen
slot_of label o = cond (eqb label 0) (Some (record { node = 255; figure = 1 })) (taken o)

-- the row with these slots
abbrev pub row_by : Row → ℕ → Chosen → Chosen → Chosen → Row
row_by own most a b c = record {
  kind = own.kind;
  number = own.number;
  fetched = own.fetched;
  constraint = own.constraint;
  first = a.node;
  second = b.node;
  third = c.node;
  figure = most * a.figure * b.figure * c.figure;
}

-- the way with these slots, if each is found
abbrev pub way_by : Row → ℕ → code.Option Chosen → code.Option Chosen → code.Option Chosen → Option Row
way_by own most None b c = none
way_by own most (Some x) None c = none
way_by own most (Some x) (Some y) None = none
way_by own most (Some x) (Some y) (Some z) = some (row_by own most x y z)

-- what is known of a pattern and its table once the pattern is right
pub record Known (b : List ℕ) (t : List (List Bool)) : Type 0 where
  pub few : size_of b ≤ 8
  pub edges : edges_of b ≤ 56
  pub room : 24 + size_of b * 16 + edges_of b * 2 ≤ length b
  pub from : (j : ℕ) → j < edges_of b → pattern_from b j < size_of b
  pub to : (j : ℕ) → j < edges_of b → pattern_to b j < size_of b
  pub label : (u : ℕ) → u < size_of b → not (eqb (pattern_label b u) 0) ≡ true
  pub table : Neighbours b t

-- no figure is above 65,536
pub record Small (figures : List ℕ) : Type 0 where
  pub most : (u : ℕ) → get_or figures u 0 ≤ 65536

-- w is a covered neighbour of u with the label
abbrev pub suited : List ℕ → List ℕ → ℕ → ℕ → ℕ → Bool
suited b figures u label w = covered figures w && joined b u w && eqb (pattern_label b w) label

-- what is known where ways are sought: pattern and table, small figures, and each constraint right by itself
pub record WaysReady (constraints b : List ℕ) (t : List (List Bool)) (figures : List ℕ) : Type 0 where
  pub known : Known b t
  pub small : Small figures
  pub count : constraints_in constraints ≤ 65535
  pub alone : (c : ℕ) → c < constraints_in constraints → constraint_alone (constraint_at constraints c) ≡ true

-- the nodes for a label, and the ways by a constraint, where another node must be chosen, if one is given
abbrev pub narrowed : code.Option ℕ → Ids → Ids
narrowed None xs = xs
narrowed (Some o) xs = narrow o xs

abbrev pub asked : code.Option ℕ → List Ids → List Ids
asked None ways = ways
asked (Some o) ways = keep (has o) ways

-- the other node, if one is given, suits one of the labels of S
abbrev pub one_suited : List ℕ → List ℕ → ℕ → Constraint → code.Option ℕ → Bool
one_suited b figures u k None = true
one_suited b figures u k (Some o) = suited b figures u k.first o || suited b figures u k.second o || suited b figures u k.third o

-- another node, if one is given, is a node of the pattern
abbrev pub Inside : List ℕ → code.Option ℕ → Type 0
Inside b other = IfSome other (λ o. o < size_of b)

-- the ways to fetch u by constraint c, as rows of a kind and a number: 0 and u for a node, 1 and j for edge j, whose other end is given
abbrev pub rows_by : List ℕ → List ℕ → List ℕ → ℕ → ℕ → ℕ → ℕ → code.Option ℕ → List Row
rows_by constraints b figures kind number u c other =
    map (λ chosen. row_of kind number u c chosen (figure_by figures (constraint_at constraints c) chosen)) (asked other (ways_by b figures u (constraint_at constraints c)))

-- the way that the best slots of a constraint's labels make
unfoldable pub slots : List ℕ → List ℕ → ℕ → Constraint → Row → code.Option ℕ → Option Row
slots b figures u k own other =
    way_by own k.most (slot_of k.first (least (figure_of figures) (narrowed other (covered_with b figures u k.first))))
    (slot_of k.second (least (figure_of figures) (narrowed other (covered_with b figures u k.second))))
    (slot_of k.third (least (figure_of figures) (narrowed other (covered_with b figures u k.third))))
