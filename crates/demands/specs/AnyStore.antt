-- What an answered listing gives, for any store, admitted or not: proofs/AnyStore proves it. Nothing is proved here.
use Rattle.std.specs.Prelude.{◌≡◌, true, ℕ, length, get_or}
use mathlib.Core.List.{List, flat_map}
use Rattle.std.proofs.Math.Option.{some}
use Rattle.rules.specs.Words.{over}
use Rattle.rules.specs.Store.{node_part, constraint_part, group_part, entry_part}
use Rattle.rules.specs.Listing.{Gathered, matches_of}
use Rattle.rules.specs.Answers.{gathered, list_outcome}
use Rattle.demands.specs.Exactly.{among, ascending, is_row}

-- what an answered listing of s gives: of what the rule reads, the rows whose images are candidates, differ, and have a pair for each pattern edge, and no others, strictly ascending; the room holds them one after the other, and then what it held before; the first result is their number. Enough.Matches says the same of the room, with the matches of the graph as rows: each is read by itself
pub record Rows (s b work room : List ℕ) : Type 0 where
  pub got : Gathered
  pub read : gathered (node_part s) (constraint_part s) (group_part s) (entry_part s) b ≡ some got
  pub exact : (row : List ℕ) → among row (matches_of b got) ≡ is_row b got row
  pub ordered : ascending (matches_of b got) ≡ true
  pub written : (list_outcome s b work room).room ≡ over room 0 (flat_map (λ row. row) (matches_of b got))
  pub counted : get_or (list_outcome s b work room).results 0 0 ≡ length (matches_of b got)
