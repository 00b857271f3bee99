-- What it is for what is gathered to leave out no match, and how far the rows have come, words of proofs/AllRows. Nothing is proved here.
use Rattle.std.specs.Prelude.{◌≡◌, get_or}
use mathlib.Core.List.{List, [], ◌++◌}
use Rattle.std.proofs.Math.Option.{some}
use Prim.Native.Nat.{ℕ, ◌<◌}
use Rattle.std.proofs.Math.ListN.{length}
use Rattle.rules.specs.Graph.{Graph}
use Rattle.rules.specs.Pattern.{size_of, edges_of}
use Rattle.rules.specs.Listing.{Reader, Gathered, with_rows}
use Rattle.rules.specs.declared.Row.{Row}
use Rattle.demands.specs.Gathers.{Candidates, Pairs, Gets, candidates_at}

-- what is gathered is enough: candidates of every node and pairs of every edge that leave out no match
pub record Whole (g : Graph) (b : List ℕ) (got : Gathered) : Type 0 where
  pub candidates : (u : ℕ) → u < size_of b → Candidates g b u (candidates_at got u)
  pub pairs : (j : ℕ) → j < edges_of b → Pairs g b j (get_or got.pairs j [])

-- after node rows
pub record Covers (g : Graph) (b : List ℕ) (r : Reader) (rows : List Row) (figures : List ℕ) (before : Gathered) : Type 0 where
  pub got : Gathered
  pub reads : (rest : List Row) → with_rows r b (rows ++ rest) before ≡ with_rows r b rest got
  pub gets : Gets g b figures got
  pub same : got.pairs ≡ before.pairs

-- the pairs of the first n edges are such
abbrev pub PairsUpTo : Graph → List ℕ → ℕ → Gathered → Type 0
PairsUpTo g b n got = (length got.pairs ≡ n) × ((j : ℕ) → j < n → Pairs g b j (get_or got.pairs j []))

-- after edge rows
pub record Joins (g : Graph) (b : List ℕ) (r : Reader) (rows : List Row) (figures : List ℕ) (n : ℕ) (before : Gathered) : Type 0 where
  pub got : Gathered
  pub reads : with_rows r b rows before ≡ some got
  pub gets : Gets g b figures got
  pub pairs : PairsUpTo g b n got
