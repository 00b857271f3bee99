-- What the walk over keys asks and promises.
use Rattle.std.specs.Prelude.{ℕ, ◌+◌, ◌*◌, ◌≤◌, ◌≡◌, cond, List, eqb, length, take, Result}
use Rattle.rules.specs.Lists.{padded}
use Rattle.rules.specs.Index.{no_id}
use Rattle.rules.specs.declared.Key.{Key}
use Rattle.build_edges.specs.Packed.{word_in, labelled_in}
use Rattle.build_edges.specs.Starts.{Edged}
use Rattle.build_neighbours.specs.Side.{Held, Listed}
use Rattle.build_neighbours.specs.declared.Labels.{Labels}
use Rattle.build_neighbours.specs.Left.{labels_in}
use Rattle.build_groups.specs.Keyed.{Keyed, keyed_from}
use Rattle.build_groups.specs.Emit.{ids_of, Placed, Gives, output_of, emit_all}
use Rattle.build_groups.specs.declared.Purpose.{Purpose}
use Rattle.build_groups.specs.declared.Work.{Work}
use Rattle.build_groups.specs.Emit.{Progress}
use Rattle.build_groups.specs.declared.Stopped.{Stopped}
use Rattle.build_groups.specs.declared.Tally.{Tally}

-- the key with u as its id number at
unfoldable pub with_id : Key → ℕ → ℕ → Key
with_id key at u =
    cond (eqb at 0) (record { constraint = key.constraint; first = u; second = key.second; third = key.third })
    (cond (eqb at 1) (record { constraint = key.constraint; first = key.first; second = u; third = key.third })
    (record { constraint = key.constraint; first = key.first; second = key.second; third = u }))

-- the labels after the first
abbrev pub rest_of : Labels → Labels
rest_of left = record { first = left.second; second = left.third; third = 0 }

-- the ids of the key that are chosen
abbrev pub chosen : Key → ℕ → List ℕ
chosen key at = take at (ids_of key)

-- the keys with their lists that the walk goes through
abbrev pub keyed_of : ℕ → List ℕ → List ℕ → Labels → Key → ℕ → List ℕ → List Keyed
keyed_of above nodes joined left key at list = keyed_from (word_in joined) (labelled_in nodes) above (labels_in left) (chosen key at) list

-- there is room for each label left, for a list and for what is tried, and the ids that are not chosen are not used
pub record WalkFit (work : Work) (l : ℕ) (left : Labels) (key : Key) (at : ℕ) (list scratch room : List ℕ) : Type 0 where
  pub placed : Placed work.task (length work.store.now) (length room)
  pub held : Held work.graph.nodes.now work.graph.joined.now work.graph.starts.now
  pub edged : Edged work.graph.edges.records.now work.graph.edges.begins.now
  pub short : length list ≤ 65536
  pub listed : Listed work.graph.nodes.now l list
  pub level : at + length (labels_in left) ≤ 3
  pub unused : padded no_id (chosen key at) ≡ ids_of key
  pub long : 131072 * length (labels_in left) ≤ length scratch

-- those keys with their lists are dealt with, one after another
pub record WalkDone (task : Purpose) (above : ℕ) (nodes joined words : List ℕ) (left : Labels) (key : Key) (at : ℕ) (list store : List ℕ) (t : Progress) (room : List ℕ) (r : Result Tally Stopped) (room' : List ℕ) : Type 0 where
  pub all : Gives r room' (emit_all task words store key.constraint (output_of t room) (keyed_of above nodes joined left key at list))
