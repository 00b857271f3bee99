-- What it is for a reader to read the lists of a graph. Nothing is proved here.
use Rattle.std.specs.Prelude.{◌≡◌, List, ℕ, ◌≤◌, ◌<◌, length}
use Rattle.std.proofs.Math.Option.{some}
use Rattle.rules.specs.Store.{constraints_in, constraint_at}
use Rattle.rules.specs.Graph.{Graph}
use Rattle.rules.specs.Index.{list_of, entries_of}
use Rattle.rules.specs.Listing.{Reader}
use Rattle.laws.specs.KeyLists.{IsKey}

-- the reader gives the values of the graph's nodes, and for every key of a constraint the entries of its list in the graph, of which there are at most N
pub record Faithful (g : Graph) (constraints : List ℕ) (r : Reader) : Type 0 where
  pub value : (v : ℕ) → v < g.size → r.value v ≡ g.value v
  pub list : (c : ℕ) (ids : List ℕ) → c < constraints_in constraints → IsKey g (constraint_at constraints c) ids
      → r.list c ids ≡ some (entries_of g (constraint_at constraints c) ids)
  pub most : (c : ℕ) (ids : List ℕ) → c < constraints_in constraints → IsKey g (constraint_at constraints c) ids
      → length (list_of g (constraint_at constraints c) ids) ≤ (constraint_at constraints c).most
