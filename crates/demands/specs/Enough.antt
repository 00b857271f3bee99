-- What it is for a listing to give exactly the matches of a graph: proofs/Enough proves it. Nothing is proved here.
use Rattle.std.specs.Prelude.{◌≡◌, ℕ, length, get_or}
use mathlib.Core.List.{List, flat_map}
use Rattle.std.proofs.Math.Option.{some}
use Rattle.rules.specs.Words.{over}
use Rattle.rules.specs.Store.{node_part, constraint_part, group_part, entry_part}
use Rattle.rules.specs.Graph.{Graph, store_graph}
use Rattle.rules.specs.Plan.{rows_of}
use Rattle.rules.specs.Listing.{Reader, Gathered, nothing, with_rows, matches_of}
use Rattle.rules.specs.Answers.{gathered, list_outcome}
use Rattle.demands.specs.AllRows.{Whole}
use Rattle.demands.specs.Exactly.{Exactly}

-- ---- over a graph and any reader of its lists
-- what is read for a covered pattern: no list is unfit; candidates suit, ascend and leave out no match, and pairs are edges and leave out no match; the rows are exactly the matches, each once, ascending
pub record Complete (g : Graph) (constraints b : List ℕ) (r : Reader) : Type 0 where
  pub got : Gathered
  pub read : with_rows r b (rows_of constraints b) (nothing b) ≡ some got
  pub whole : Whole g b got
  pub rows : Exactly g b (matches_of b got)

-- ---- over the call
-- what an answered listing of s gives: of what the rule reads, the rows are exactly the matches of the graph of s, strictly ascending; the room holds them one after the other, and then what it held before; the first result is their number
pub record Matches (s b work room : List ℕ) : Type 0 where
  pub got : Gathered
  pub read : gathered (node_part s) (constraint_part s) (group_part s) (entry_part s) b ≡ some got
  pub rows : Exactly (store_graph s) b (matches_of b got)
  pub written : (list_outcome s b work room).room ≡ over room 0 (flat_map (λ row. row) (matches_of b got))
  pub counted : get_or (list_outcome s b work room).results 0 0 ≡ length (matches_of b got)
