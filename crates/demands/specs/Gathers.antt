-- What a reader of a graph's lists gathers, row by row, words of proofs/Gathers. Nothing is proved here.
use Rattle.std.specs.Prelude.{◌≡◌, Bool, ◌&&◌, ℕ, ◌<◌, eqb, get_or}
use Rattle.std.proofs.Math.Bool.{true}
use mathlib.Core.List.{List, [], map}
use Rattle.std.proofs.Math.ListN.{length}
use Rattle.rules.specs.Lists.{any, has}
use Rattle.laws.specs.Strict.{Strict}
use Rattle.rules.specs.Store.{constraint_at}
use Rattle.rules.specs.Graph.{Graph}
use Rattle.rules.specs.Index.{directions_of, entries_of}
use Rattle.rules.specs.Pattern.{size_of, pattern_from, pattern_to}
use Rattle.rules.specs.Match.{image, suits, is_match}
use Rattle.rules.specs.Plan.{covered}
use Rattle.rules.specs.Listing.{Read, Gathered, keys_from}
use Rattle.rules.specs.declared.Constraint.{Constraint}
use Rattle.rules.specs.declared.Row.{Row}
use Rattle.rules.specs.declared.Entry.{Entry}

-- ---- the lists as they are read
-- the entry of a node in the list of a key
abbrev pub entry_of : Graph → List ℕ → ℕ → Entry
entry_of g key v = record { node = v; directions = directions_of g key v }

-- the list of a key, as it is read
abbrev pub read_of : Graph → Constraint → List ℕ → Read
read_of g d key = record { key = key; entries = entries_of g d key }

-- ---- what has been gathered
-- candidates of pattern node u: strictly ascending, each suits u, and the image of u in every match is one of them
pub record Candidates (g : Graph) (b : List ℕ) (u : ℕ) (xs : List ℕ) : Type 0 where
  pub strict : Strict xs
  pub sound : (v : ℕ) → has v xs ≡ true → suits g b u v ≡ true
  pub whole : (row : List ℕ) → is_match g b row ≡ true → has (image row u) xs ≡ true

-- a pair is among some
unfoldable pub has_both : List (ℕ × ℕ) → ℕ → ℕ → Bool
has_both pairs x y = any (λ p. eqb p.0 x && eqb p.1 y) pairs

-- pairs of pattern edge j: each is an edge, and the images of its ends in every match are among them
pub record Pairs (g : Graph) (b : List ℕ) (j : ℕ) (pairs : List (ℕ × ℕ)) : Type 0 where
  pub sound : (x y : ℕ) → has_both pairs x y ≡ true → g.edge x y ≡ true
  pub whole : (row : List ℕ) → is_match g b row ≡ true → has_both pairs (image row (pattern_from b j)) (image row (pattern_to b j)) ≡ true

-- the candidates of each covered node are such, in a list for each pattern node (Within.Kept says as much of another state)
pub record Gets (g : Graph) (b figures : List ℕ) (got : Gathered) : Type 0 where
  pub size : length got.candidates ≡ size_of b
  pub node : (u : ℕ) → u < size_of b → covered figures u ≡ true → Candidates g b u (get_or got.candidates u [])

-- the constraint of a row
abbrev pub by_of : List ℕ → Row → Constraint
by_of constraints row = constraint_at constraints row.constraint

-- the candidates of w
abbrev pub candidates_at : Gathered → ℕ → List ℕ
candidates_at got w = get_or got.candidates w []

-- the lists of a row, as they are read
abbrev pub lists_of : Graph → List ℕ → Gathered → Row → List Read
lists_of g constraints got row = map (read_of g (by_of constraints row)) (keys_from got row)
