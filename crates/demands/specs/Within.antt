-- What it is for lists to have at most N entries, and how far the rows have come, words of proofs/Within. Nothing is proved here.
use Rattle.std.specs.Prelude.{◌≡◌, cond, eqb}
use mathlib.Core.List.{List, [], map}
use Rattle.std.proofs.Math.Option.{some}
use Prim.Native.Nat.{ℕ, ◌+◌, ◌≤◌}
use Rattle.std.proofs.Math.ListN.{length, get_or}
use Rattle.rules.specs.Lists.{sum}
use Rattle.rules.specs.Store.{constraint_at}
use Rattle.rules.specs.Pattern.{size_of}
use Rattle.rules.specs.Listing.{Reader, Read, read_keys, Gathered, keys_from, with_node, with_edge, with_rows}
use Rattle.rules.specs.declared.Row.{Row}
use Rattle.rules.specs.declared.Entry.{Entry}

-- ---- lists have at most N entries
-- no list of a reader has more than its constraint's N
pub record Short (constraints : List ℕ) (r : Reader) : Type 0 where
  pub most : (c : ℕ) (key : List ℕ) (l : List Entry) → r.list c key ≡ some l → length l ≤ (constraint_at constraints c).most

-- ---- rows that were read
pub record RowGiven (r : Reader) (b : List ℕ) (got : Gathered) (row : Row) (next : Gathered) : Type 0 where
  pub reads : List Read
  pub keys : read_keys r row.constraint (keys_from got row) ≡ some reads
  pub is : next ≡ cond (eqb row.kind 0) (with_node r b got row reads) (with_edge b got row reads)

pub record RowsGiven (r : Reader) (b : List ℕ) (got : Gathered) (row : Row) (rows : List Row) (last : Gathered) : Type 0 where
  pub next : Gathered
  pub here : RowGiven r b got row next
  pub later : with_rows r b rows next ≡ some last

-- ---- all rows
-- the sum of the figures of some rows
abbrev pub figures-sum : List Row → ℕ
figures-sum rows = sum (map (λ r. r.figure) rows)

-- entries read so far
abbrev pub read_so_far : Gathered → ℕ
read_so_far got = got.nodes + got.edges

-- no node has more candidates than its figure, in a list for each pattern node (Gathers.Gets says as much of another state)
pub record Kept (b figures : List ℕ) (got : Gathered) : Type 0 where
  pub size : length figures ≡ 8
  pub long : length got.candidates ≡ size_of b
  pub few : (u : ℕ) → length (get_or got.candidates u []) ≤ get_or figures u 0

-- after node rows
pub record Fetched (r : Reader) (b figures : List ℕ) (rows rest : List Row) (got last : Gathered) : Type 0 where
  pub mid : Gathered
  pub kept : Kept b figures mid
  pub later : with_rows r b rest mid ≡ some last
  pub total : read_so_far mid ≤ read_so_far got + figures-sum rows
