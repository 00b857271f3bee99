-- What writing the node rows and the edge rows leaves.
use Rattle.std.specs.Prelude.{ℕ, ◌+◌, ◌*◌, ◌≤◌, ◌<◌, ◌≡◌, length, Result, IfOk, OnErr}
use mathlib.Core.List.{List, map, flat_map}
use Rattle.rules.specs.Lists.{sum}
use Rattle.rules.specs.Words.{over}
use Rattle.rules.specs.Plan.{node_rows, figures_of, edge_rows, row_words}
use Rattle.rules.specs.declared.Row.{Row}
use Rattle.plan_ways.specs.Ways.{Small}
use Rattle.plan_rows.specs.declared.Stand.{Stand}
use Rattle.plan_rows.specs.declared.TooMuch.{TooMuch}

-- the sum of the figures of rows
abbrev pub total : List Row → ℕ
total rows = sum (map (λ r. r.figure) rows)

-- s counts these rows on from a count and a sum, and their words are written after that count of rows
pub record Written (whole : List Row) (count₀ sum₀ : ℕ) (rows₀ rows : List ℕ) (s : Stand) : Type 0 where
  pub counted : s.count ≡ count₀ + length whole
  pub summed : s.sum ≡ sum₀ + total whole
  pub written : rows ≡ over rows₀ (count₀ * 8) (flat_map row_words whole)

-- where all node rows are written
pub record Standing (constraints b : List ℕ) (s : Stand) : Type 0 where
  pub figures : s.figures ≡ figures_of constraints b
  pub small : Small s.figures
  pub few : s.count ≤ 8
  pub most : s.sum ≤ s.count * 65536

-- a row is written after the others and counted, and its figure is not above 65,536
pub record Pushed (row : Row) (s₀ : Stand) (rows₀ rows : List ℕ) (s : Stand) : Type 0 where
  pub small : row.figure ≤ 65536
  pub stand : s ≡ record { figures = s₀.figures; count = s₀.count + 1; sum = s₀.sum + row.figure }
  pub written : rows ≡ over rows₀ (s₀.count * 8) (row_words row)

-- the node rows are written, unless a figure is above 65,536
pub record NodesDone (constraints b rows₀ rows : List ℕ) (r : Result Stand TooMuch) : Type 0 where
  pub standing : IfOk r (λ s. Standing constraints b s)
  pub written : IfOk r (λ s. Written (node_rows constraints b) 0 0 rows₀ rows s)
  pub above : OnErr r (65536 < total (node_rows constraints b))
  pub kept : length rows ≡ length rows₀

-- the edge rows are written after the node rows, unless a figure is above 65,536
pub record EdgesDone (constraints b : List ℕ) (nodes : Stand) (rows₀ rows : List ℕ) (r : Result Stand TooMuch) : Type 0 where
  pub written : IfOk r (λ s. Written (edge_rows constraints b) nodes.count nodes.sum rows₀ rows s)
  pub few : IfOk r (λ s. s.count ≤ 64)
  pub most : IfOk r (λ s. s.sum ≤ 64 * 65536)
  pub above : OnErr r (65536 < total (edge_rows constraints b))
  pub kept : length rows ≡ length rows₀
