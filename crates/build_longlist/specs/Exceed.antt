-- Whether some list of a constraint is longer than its N, without going through its keys.
use Rattle.std.specs.Prelude.{ℕ, ◌*◌, ◌≤◌, ◌≡◌, Bool, false, ◌&&◌, List, [], ◌∷◌, ltb, length}
use Rattle.rules.specs.Lists.{any, all, keep, any_from}
use Rattle.laws.specs.Strict.{Strict}
use Rattle.rules.specs.Store.{most_constraints, most_nodes, constraints_in, constraint_at, nodes_in}
use Rattle.rules.specs.declared.Constraint.{Constraint}
use Rattle.build_edges.specs.Packed.{word_in, labelled_in}
use Rattle.laws.specs.Lows.{lows}
use Rattle.build_edges.specs.Near.{Joined}
use Rattle.build_neighbours.specs.Left.{labels_left, labels_in}
use Rattle.build_neighbours.specs.declared.Labels.{Labels}
use Rattle.build_longlist.specs.Counting.{Inside}

-- some key that goes on with nodes of these labels has a list longer than t; `list` is the list of the nodes before them
unfoldable pub long_from : (ℕ → ℕ → Bool) → (ℕ → List ℕ) → ℕ → List ℕ → List ℕ → Bool
long_from joined labelled t [] list = ltb t (length list)
long_from joined labelled t (s ∷ labels) list =
    ltb t (length list) && any (λ u. long_from joined labelled t labels (keep (joined u) list)) (labelled s)

-- whoever of a list is joined with u is joined with w
unfoldable pub goes_with : List ℕ → List ℕ → ℕ → ℕ → Bool
goes_with joined list u w = all (word_in joined w) (keep (word_in joined u) list)

-- some list of constraint c is longer than its N
unfoldable pub exceeds_by : List ℕ → List ℕ → Constraint → Bool
exceeds_by nodes joined d =
    long_from (word_in joined) (labelled_in nodes) d.most (labels_left d.first d.second d.third) (labelled_in nodes d.label)

unfoldable pub exceeds_at : List ℕ → List ℕ → List ℕ → ℕ → Bool
exceeds_at nodes joined constraints c = exceeds_by nodes joined (constraint_at constraints c)

unfoldable pub exceeds_in : List ℕ → List ℕ → List ℕ → Bool
exceeds_in nodes joined constraints = any_from (exceeds_at nodes joined constraints) 0 (constraints_in constraints)

-- words with nodes in their low halves: what holds of no node whose part of the list is no longer than t
-- holds of one of those nodes exactly if it holds of one of the ids
pub record Sifted (joined list : List ℕ) (t : ℕ) (ids words : List ℕ) : Type 0 where
  pub some : (p : ℕ → Bool) → ((u : ℕ) → length (keep (word_in joined u) list) ≤ t → p u ≡ false) → any p (lows words) ≡ any p ids

-- there is a room for a list and a room for the nodes that are tried for each label left
pub record Rooms (nodes joined : List ℕ) (left : Labels) (list rooms : List ℕ) : Type 0 where
  pub few : nodes_in nodes ≤ most_nodes
  pub both : Joined joined
  pub short : length list ≤ 65536
  pub ascends : Strict list
  pub inside : Inside list
  pub long : 131072 * length (labels_in left) ≤ length rooms

-- the same for all constraints, with a room for the nodes labelled l
pub record Ample (nodes joined constraints rooms : List ℕ) : Type 0 where
  pub few : nodes_in nodes ≤ most_nodes
  pub both : Joined joined
  pub limited : constraints_in constraints ≤ most_constraints
  pub long : 458752 ≤ length rooms
