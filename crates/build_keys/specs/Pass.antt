-- A pass over all constraints of a graph.
use Rattle.std.specs.Prelude.{ℕ, ◌≤◌, ◌≡◌, cond, true, false, List, [], length}
use Rattle.rules.specs.Lists.{set_of}
use Rattle.laws.specs.Loops.{fold_from}
use Rattle.rules.specs.Store.{constraints_in, constraint_at, node_part, edge_part, constraint_part, header_right, records_right, constraints_right}
use Rattle.rules.specs.declared.Constraint.{Constraint}
use Rattle.build_edges.specs.Packed.{forward_words, word_in, labelled_in}
use Rattle.build_edges.specs.Starts.{Climbs}
use Rattle.build_edges.specs.Sound.{joined_set}
use Rattle.build_neighbours.specs.Side.{Arranged}
use Rattle.build_neighbours.specs.Left.{labels_left}
use Rattle.build_groups.specs.Keyed.{Keyed, keyed_from}
use Rattle.build_groups.specs.Emit.{Output, output_of, emit_all}
use Rattle.build_groups.specs.declared.Purpose.{Purpose}
use Rattle.build_groups.specs.Emit.{Progress}

-- lists longer than this: than N where the task asks for it, else all that are not empty
unfoldable pub above_for : Purpose → Constraint → ℕ
above_for task d = cond task.above_most d.most 0

-- the keys of a constraint, with their lists
unfoldable pub keyed_by : Purpose → List ℕ → List ℕ → Constraint → List Keyed
keyed_by task nodes joined d =
    keyed_from (word_in joined) (labelled_in nodes) (above_for task d) (labels_left d.first d.second d.third) [] (labelled_in nodes d.label)

-- they are dealt with
unfoldable pub visited : Purpose → List ℕ → List ℕ → List ℕ → List ℕ → List ℕ → ℕ → Output → Output
visited task nodes joined words constraints store c s =
    emit_all task words store c s (keyed_by task nodes joined (constraint_at constraints c))

unfoldable pub visited_all : Purpose → List ℕ → List ℕ → List ℕ → List ℕ → List ℕ → Output → Output
visited_all task nodes joined words constraints store s =
    fold_from (visited task nodes joined words constraints store) 0 (constraints_in constraints) s

-- nothing counted yet
abbrev pub nothing : Progress
nothing = record { groups = 0; entries = 0; stopped = false }

-- all groups of a store's graph are dealt with
unfoldable pub passed : Purpose → List ℕ → List ℕ → List ℕ → Output
passed task s store room =
    visited_all task (node_part s) (joined_set (edge_part s)) (forward_words (edge_part s)) (constraint_part s) store (output_of nothing room)

-- a store or draft without refusal 1, 2 or 3 (laws/Refusals.GraphRight says that 4 and 11 are not given either, and nothing of the header)
pub record Right (s : List ℕ) : Type 0 where
  pub header : header_right s ≡ true
  pub records : records_right (node_part s) (edge_part s) ≡ true
  pub constraints : constraints_right (constraint_part s) ≡ true

-- its edges, as words, each both ways round, are at hand too
pub record AtHand (s joined : List ℕ) : Type 0 where
  pub right : Right s
  pub words : joined ≡ joined_set (edge_part s)
  pub short : length joined ≤ 524288

-- they are arranged
pub record Laid (s joined : List ℕ) : Type 0 where
  pub right : Right s
  pub arranged : Arranged (node_part s) joined
  pub climbs : Climbs joined
  pub words : set_of joined ≡ joined_set (edge_part s)
  pub short : length joined ≤ 524288
