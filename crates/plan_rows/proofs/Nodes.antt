-- Laws of the loop that writes the node rows. Assumes nothing.
use mathlib.Core.Path.{◌≡◌, refl, sym, ◌∙◌}
use mathlib.Core.List.{List, [], ◌∷◌}
use mathlib.Core.Option.{some, none}
use Prim.Native.Nat.{ℕ, suc, ◌+◌, ◌-◌, ◌*◌, ◌≤◌, ◌<◌}
use native.Mathlib.Decide.{dec_le, ℕ_discrete}
use native.Mathlib.Nat.{sub-zero}
use native.Mathlib.Omega.{arith}
use lib.ListN.{length, get_or, set, get_or-replicate, get_or-eq_default}
use lib.Seq.{get_or-set_same, get_or-set_other, set_out}
use Rattle.rules.specs.Pattern.{size_of}
use Rattle.rules.specs.Plan.{no_figures, smallest, all_ways, figures_with, figures_after, node_rows_from, node_rows, figures_of}
use Rattle.rules.specs.declared.Row.{Row}
use Rattle.laws.specs.Covering.{rows-next, rows-stop, rows-zero}
use Rattle.plan_ways.specs.Ways.{Small}
use Rattle.plan_rows.specs.declared.Stand.{Stand}
use Rattle.std.specs.Prelude.{Result, Ok, Err, IsErr}
use Rattle.plan_rows.specs.declared.TooMuch.{TooMuch}
use Rattle.plan_rows.specs.Rows.{Pushed, NodesDone}
use Rattle.plan_rows.proofs.Going.{RowsGoing, going-start, going-next, going-above, going-done}

-- a figure that is not above 65,536 leaves small figures small
pub small-set : (figures : List ℕ) (n v : ℕ) → Small figures → v ≤ 65536 → Small (set figures n v)
small-set figures n v s h = record { most = λ u. go u (ℕ_discrete u n) (dec_le (length figures) n) }
  where
    go : (u : ℕ) → Dec (u ≡ n) → Dec (length figures ≤ n) → get_or (set figures n v) u 0 ≤ 65536
    go u d (yes l) = rw (set_out figures n v l) (s.most u)
    go u (yes e) (no l) = let k : n < length figures = omega arith in rw (e, get_or-set_same figures n v 0 k) h
    go u (no e) (no l) = rw (get_or-set_other figures n u v 0 e) (s.most u)

-- no figures are small
pub small-none : Small no_figures
small-none = record { most = λ u. go u (dec_le 8 u) }
  where
    go : (u : ℕ) → Dec (8 ≤ u) → get_or no_figures u 0 ≤ 65536
    go u (yes h) = omega (arith, get_or-eq_default no_figures 0 h)
    go u (no h) = let k : u < 8 = omega arith in omega (arith, get_or-replicate {A = ℕ} 8 u 0 0 k)

-- the node rows that are left after n of them decide the whole
pub record NodesGoing (constraints b rows₀ rows : List ℕ) (n : ℕ) (s : Stand) : Type 0 where
  pub turn : s.count ≡ n
  pub within : s.count ≤ size_of b
  pub small : Small s.figures
  pub going : RowsGoing (node_rows_from constraints b (size_of b - s.count) s.figures) (node_rows constraints b) 0 0 rows₀ rows s.count s.sum
  pub after : figures_after s.figures (node_rows_from constraints b (size_of b - s.count) s.figures) ≡ figures_of constraints b

pub nodes-start : (constraints b rows₀ : List ℕ) → NodesGoing constraints b rows₀ rows₀ 0 (record { figures = no_figures; count = 0; sum = 0 })
unfolding node_rows figures_of
nodes-start constraints b rows₀ =
    record { turn = refl; within = omega arith; small = small-none; going = rw sub-zero (going-start (node_rows constraints b) 0 0 rows₀); after = rw sub-zero }

module _ {constraints b rows₀ rows : List ℕ} {n : ℕ} {s : Stand} (inv : NodesGoing constraints b rows₀ rows n s) where
  -- the rows that are left, where there is a way
  next-left : (r : Row) → s.count < size_of b → some r ≡ smallest (all_ways constraints b s.figures)
      → node_rows_from constraints b (size_of b - s.count) s.figures ≡ r ∷ node_rows_from constraints b (size_of b - (s.count + 1)) (figures_with s.figures r)
  next-left r h e =
      let m : size_of b - s.count ≡ suc (size_of b - (s.count + 1)) = omega arith in
      rw m (rows-next constraints b (size_of b - (s.count + 1)) s.figures r (sym e))

  -- the next row is written
  pub nodes-next : (r : Row) (next : List ℕ) (t : Stand) → n < size_of b → some r ≡ smallest (all_ways constraints b s.figures) → s.count * 8 + 8 ≤ length rows → Pushed r s rows next t
      → NodesGoing constraints b rows₀ next (n + 1) (record { figures = figures_with t.figures r; count = t.count; sum = t.sum })
  unfolding figures_after
  nodes-next r next t h e fits p =
      let l : s.count < size_of b = omega (arith, inv.turn) in
      let left = next-left r l e in
      rw p.stand (record {
        turn = omega (arith, inv.turn);
        within = omega arith;
        small = small-set s.figures r.number r.figure inv.small p.small;
        going = going-next (rw left at inv.going) next p.small fits p.written;
        after = rw left at inv.after;
      })

  -- the next row is above 65,536
  pub nodes-above : (r : Row) (next : List ℕ) (x : Result Stand TooMuch) → n < size_of b → some r ≡ smallest (all_ways constraints b s.figures) → 65536 < r.figure
      → length next ≡ length rows → IsErr x → NodesDone constraints b rows₀ next x
  nodes-above r next (Ok t) h w above same is = absurd (cc)
  nodes-above r next (Err e) h w above same is =
      let l : s.count < size_of b = omega (arith, inv.turn) in
      record { standing = tt; written = tt; above = going-above (rw (next-left r l w) at inv.going) above; kept = same ∙ inv.going.kept }

  -- no row is left
  nodes-done : size_of b ≤ 8 → node_rows_from constraints b (size_of b - s.count) s.figures ≡ [] → NodesDone constraints b rows₀ rows (Ok s)
  unfolding figures_after
  nodes-done few left = record {
    standing = record { figures = rw left at inv.after; small = inv.small; few = omega (arith, inv.within); most = omega (arith, inv.going.most) };
    written = going-done (rw left at inv.going);
    above = tt;
    kept = inv.going.kept;
  }

  -- for want of a way
  pub nodes-stop : size_of b ≤ 8 → n < size_of b → none ≡ smallest (all_ways constraints b s.figures) → NodesDone constraints b rows₀ rows (Ok s)
  nodes-stop few h e =
      let m : size_of b - s.count ≡ suc (size_of b - (s.count + 1)) = omega (arith, inv.turn) in
      nodes-done few (rw m (rows-stop constraints b (size_of b - (s.count + 1)) s.figures (sym e)))

  -- after a row for each node
  pub nodes-end : size_of b ≤ 8 → size_of b ≤ n → NodesDone constraints b rows₀ rows (Ok s)
  nodes-end few h =
      let m : size_of b - s.count ≡ 0 = omega (arith, inv.turn) in
      nodes-done few (rw m (rows-zero constraints b s.figures))
