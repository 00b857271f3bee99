-- Laws of a loop that writes rows: what is left decides the whole. Assumes nothing.
use mathlib.Core.Path.{◌≡◌, refl, sym, ap, ◌∙◌}
use mathlib.Core.List.{List, [], ◌∷◌, flat_map}
use Prim.Native.Nat.{ℕ, ◌+◌, ◌*◌, ◌≤◌, ◌<◌}
use native.Mathlib.Omega.{arith}
use lib.ListN.{length}
use Rattle.rules.specs.Lists.{sum}
use Rattle.rules.specs.Words.{over}
use Rattle.rules.specs.Plan.{row_words}
use Rattle.rules.specs.declared.Row.{Row}
use Rattle.laws.specs.Over.{over-nil, over-over, length-over}
use Rattle.plan_rows.specs.declared.Stand.{Stand}
use Rattle.plan_rows.specs.Rows.{total, Written}

-- with the rows that are left, count, sum and words come to the whole; no row so far is above 65,536
pub record RowsGoing (rest whole : List Row) (count₀ sum₀ : ℕ) (rows₀ rows : List ℕ) (count sum : ℕ) : Type 0 where
  pub counted : count + length rest ≡ count₀ + length whole
  pub summed : sum + total rest ≡ sum₀ + total whole
  pub written : over rows (count * 8) (flat_map row_words rest) ≡ over rows₀ (count₀ * 8) (flat_map row_words whole)
  pub kept : length rows ≡ length rows₀
  pub grown : sum₀ ≤ sum
  pub most : sum + count₀ * 65536 ≤ sum₀ + count * 65536

pub going-start : (whole : List Row) (count₀ sum₀ : ℕ) (rows₀ : List ℕ) → RowsGoing whole whole count₀ sum₀ rows₀ rows₀ count₀ sum₀
going-start whole count₀ sum₀ rows₀ = record { counted = refl; summed = refl; written = refl; kept = refl; grown = omega arith; most = omega arith }

module _ {rest whole : List Row} {count₀ sum₀ : ℕ} {rows₀ rows : List ℕ} {count sum : ℕ} {r : Row} (inv : RowsGoing (r ∷ rest) whole count₀ sum₀ rows₀ rows count sum) where
  -- a row is written
  pub going-next : (next : List ℕ) → r.figure ≤ 65536 → count * 8 + 8 ≤ length rows → next ≡ over rows (count * 8) (row_words r)
      → RowsGoing rest whole count₀ sum₀ rows₀ next (count + 1) (sum + r.figure)
  unfolding sum row_words flat_map
  going-next next h fits e =
      let m : (count + 1) * 8 ≡ count * 8 + 8 = omega arith in
      record {
        counted = omega (arith, inv.counted);
        summed = omega (arith, inv.summed);
        written = rw (m, e) (over-over rows (count * 8) (row_words r) fits (flat_map row_words rest) ∙ inv.written);
        kept = ap length e ∙ length-over rows (count * 8) (row_words r) fits ∙ inv.kept;
        grown = omega arith;
        most = omega arith;
      }

  -- a row is above 65,536
  pub going-above : 65536 < r.figure → 65536 < total whole
  unfolding sum
  going-above h = omega (arith, inv.summed)

-- no row is left
pub going-done : {whole : List Row} {count₀ sum₀ : ℕ} {rows₀ rows : List ℕ} {s : Stand} → RowsGoing [] whole count₀ sum₀ rows₀ rows s.count s.sum → Written whole count₀ sum₀ rows₀ rows s
unfolding sum flat_map
going-done {s = s} inv = record { counted = omega (arith, inv.counted); summed = omega (arith, inv.summed); written = sym (over-nil _ (s.count * 8)) ∙ inv.written }
