-- Listing reads no edge record, on any store: so a version that scans the edges instead breaks the promise. Assumes nothing.
use Rattle.std.specs.Prelude.{◌≡◌, List, ℕ}
use Rattle.rules.specs.Store.{header_right, node_part, constraint_part, group_part, entry_part}
use Rattle.rules.specs.Answers.{list_outcome}

-- Listing looks at no edge record, nor at their number: any two stores, admitted or not, whose headers are both right or both wrong and whose node, constraint, group and entry sections are equal, give one outcome for the same pattern and the same rooms.
pub edges-unread : (s t b work room : List ℕ) → header_right s ≡ header_right t → node_part s ≡ node_part t → constraint_part s ≡ constraint_part t
    → group_part s ≡ group_part t → entry_part s ≡ entry_part t → list_outcome s b work room ≡ list_outcome t b work room
unfolding list_outcome
edges-unread s t b work room right nodes constraints groups entries = rw (right, nodes, constraints, groups, entries)
