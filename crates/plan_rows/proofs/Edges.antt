-- Laws of the loop that writes the edge rows. Assumes nothing.
use mathlib.Core.Path.{◌≡◌, refl, sym, ◌∙◌}
use mathlib.Core.List.{List, ◌∷◌, flat_map}
use mathlib.Core.Option.{some, none}
use Prim.Native.Nat.{ℕ, suc, ◌+◌, ◌-◌, ◌*◌, ◌≤◌, ◌<◌}
use native.Mathlib.Nat.{sub-zero}
use native.Mathlib.Omega.{arith}
use lib.ListN.{length}
use Rattle.rules.specs.Lists.{range}
use Rattle.rules.specs.Pattern.{edges_of}
use Rattle.rules.specs.Plan.{smallest, edge_ways, listed, edge_rows, figures_of}
use Rattle.rules.specs.declared.Row.{Row}
use Rattle.plan_rows.specs.declared.Stand.{Stand}
use Rattle.std.specs.Prelude.{Result, Ok, Err, IsErr}
use Rattle.plan_rows.specs.declared.TooMuch.{TooMuch}
use Rattle.plan_rows.specs.Rows.{Standing, Pushed, EdgesDone}
use Rattle.plan_rows.proofs.Going.{RowsGoing, going-start, going-next, going-above, going-done}

-- the rows of the edges from j on
abbrev pub edges_from : List ℕ → List ℕ → List ℕ → ℕ → List Row
edges_from constraints b figures j = flat_map (λ j. listed (smallest (edge_ways constraints b figures j))) (range j (edges_of b - j))

-- the edge rows that are left from j on decide the whole
pub record EdgesGoing (constraints b : List ℕ) (nodes : Stand) (rows₀ rows : List ℕ) (j : ℕ) (s : Stand) : Type 0 where
  pub within : j ≤ edges_of b
  pub few : s.count ≤ nodes.count + j
  pub same : s.figures ≡ nodes.figures
  pub going : RowsGoing (edges_from constraints b nodes.figures j) (edge_rows constraints b) nodes.count nodes.sum rows₀ rows s.count s.sum

pub edges-start : (constraints b : List ℕ) (nodes : Stand) (rows₀ : List ℕ) → nodes.figures ≡ figures_of constraints b → EdgesGoing constraints b nodes rows₀ rows₀ 0 nodes
unfolding edge_rows
edges-start constraints b nodes rows₀ e =
    record { within = omega arith; few = omega arith; same = refl; going = rw (sub-zero, e) (going-start (edge_rows constraints b) nodes.count nodes.sum rows₀) }

module _ {constraints b : List ℕ} {nodes : Stand} {rows₀ rows : List ℕ} {j : ℕ} {s : Stand} (inv : EdgesGoing constraints b nodes rows₀ rows j s) where
  -- the rows that are left, where there is a way
  some-left : (r : Row) → j < edges_of b → some r ≡ smallest (edge_ways constraints b s.figures j)
      → edges_from constraints b nodes.figures j ≡ r ∷ edges_from constraints b nodes.figures (j + 1)
  unfolding range flat_map listed
  some-left r h e =
      let m : edges_of b - j ≡ suc (edges_of b - (j + 1)) = omega arith in
      let f : smallest (edge_ways constraints b nodes.figures j) ≡ some r = rw (← inv.same) (sym e) in
      rw (m, f)

  -- and where there is none
  none-left : j < edges_of b → none ≡ smallest (edge_ways constraints b s.figures j) → edges_from constraints b nodes.figures j ≡ edges_from constraints b nodes.figures (j + 1)
  unfolding range flat_map listed
  none-left h e =
      let m : edges_of b - j ≡ suc (edges_of b - (j + 1)) = omega arith in
      let f : smallest (edge_ways constraints b nodes.figures j) ≡ none = rw (← inv.same) (sym e) in
      rw (m, f)

  -- the row of edge j is written
  pub edges-next : (r : Row) (next : List ℕ) (t : Stand) → j < edges_of b → some r ≡ smallest (edge_ways constraints b s.figures j) → s.count * 8 + 8 ≤ length rows → Pushed r s rows next t
      → EdgesGoing constraints b nodes rows₀ next (j + 1) t
  edges-next r next t h e fits p =
      rw p.stand (record {
        within = omega arith;
        few = omega (arith, inv.few);
        same = inv.same;
        going = going-next (rw (some-left r h e) at inv.going) next p.small fits p.written;
      })

  -- edge j has none
  pub edges-skip : j < edges_of b → none ≡ smallest (edge_ways constraints b s.figures j) → EdgesGoing constraints b nodes rows₀ rows (j + 1) s
  edges-skip h e = record { within = omega arith; few = omega (arith, inv.few); same = inv.same; going = rw (none-left h e) at inv.going }

  -- the row of edge j is above 65,536
  pub edges-above : (r : Row) (next : List ℕ) (x : Result Stand TooMuch) → j < edges_of b → some r ≡ smallest (edge_ways constraints b s.figures j) → 65536 < r.figure
      → length next ≡ length rows → IsErr x → EdgesDone constraints b nodes rows₀ next x
  edges-above r next (Ok t) h w above same is = absurd (cc)
  edges-above r next (Err e) h w above same is =
      record { written = tt; few = tt; most = tt; above = going-above (rw (some-left r h w) at inv.going) above; kept = same ∙ inv.going.kept }

  -- each edge has had its turn
  pub edges-done : Standing constraints b nodes → edges_of b ≤ 56 → edges_of b ≤ j → EdgesDone constraints b nodes rows₀ rows (Ok s)
  unfolding range flat_map
  edges-done standing few h =
      let m : edges_of b - j ≡ 0 = omega arith in
      record {
        written = going-done (rw m at inv.going);
        few = omega (arith, inv.few, inv.within, standing.few);
        most = omega (arith, inv.going.most, inv.few, inv.within, standing.few, standing.most);
        above = tt;
        kept = inv.going.kept;
      }
