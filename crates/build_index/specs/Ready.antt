-- What the parts of a pass ask and promise.
use Rattle.std.specs.Prelude.{ℕ, ◌≤◌, ◌≡◌, List, length}
use Rattle.rules.specs.Lists.{padded}
use Rattle.rules.specs.Index.{no_id}
use Rattle.rules.specs.declared.Key.{Key}
use Rattle.build_edges.specs.Packed.{word_in, labelled_in}
use Rattle.build_edges.specs.Starts.{Edged}
use Rattle.build_neighbours.specs.Side.{Held}
use Rattle.build_groups.specs.Keyed.{keyed_from}
use Rattle.build_groups.specs.Emit.{ids_of, Placed, Output, emit_all}
use Rattle.build_keys.specs.Walk.{chosen}
use Rattle.build_groups.specs.declared.Purpose.{Purpose}
use Rattle.build_groups.specs.declared.Work.{Work}

-- the keys that begin with these ids and go on with nodes of the labels, `list` being the list of these ids, are dealt with
unfoldable pub dealt : Purpose → ℕ → List ℕ → List ℕ → List ℕ → List ℕ → Key → List ℕ → List ℕ → List ℕ → Output → Output
dealt task above nodes joined words labels key ids list store s =
    emit_all task words store key.constraint s (keyed_from (word_in joined) (labelled_in nodes) above labels ids list)

-- a key without ids
abbrev pub Fresh : Key → Type 0
Fresh key = padded no_id (chosen key 0) ≡ ids_of key

-- there are the rooms for a first list and for two labels more
pub record IndexReady (work : Work) (scratch room : List ℕ) : Type 0 where
  pub placed : Placed work.task (length work.store.now) (length room)
  pub held : Held work.graph.nodes.now work.graph.joined.now work.graph.starts.now
  pub edged : Edged work.graph.edges.records.now work.graph.edges.begins.now
  pub long : 327680 ≤ length scratch
