use Rattle.std.proofs.Common.{◌≡◌, ℕ, Bool, true, false, ◌+◌, ◌-◌, ◌/◌, ◌<◌, refl, arith}
use Rattle.laws.specs.Halving.{HalvingLeft, half-up, half-down, half-done}
use Rattle.order_search.proofs.first_from.Goals as goal

-- the middle, written so that no sum is too great
middle : (low high : ℕ) → low < high → low + (high - low) / 2 ≡ (low + high) / 2
middle low high h = omega arith

module _ {test : ℕ → Bool} {count low high whole : ℕ} (inv : HalvingLeft test count low high whole) (h : low < high) where
  go-up : true ≡ test (low + (high - low) / 2) → HalvingLeft test count (low + (high - low) / 2 + 1) high whole
  go-up e = rw (← middle low high h) at (half-up inv h (rw (middle low high h) at e) refl)

  go-down : false ≡ test (low + (high - low) / 2) → HalvingLeft test count low (low + (high - low) / 2) whole
  go-down e = rw (← middle low high h) at (half-down inv h (rw (middle low high h) at e) refl)

pub loop-low-preserved-then-below : goal.loop-low-preserved-then-below
loop-low-preserved-then-below g c = record {
  ordered = omega arith;
  inside = omega arith;
  left = λ test says. go-up (c.loop-low.invariant.left test says) c.loop-low-test.true (says _ _ (omega arith) c.if-below.ensures);
}

pub loop-low-preserved : goal.loop-low-preserved
loop-low-preserved g c = record {
  ordered = omega arith;
  inside = omega arith;
  left = λ test says. go-down (c.loop-low.invariant.left test says) c.loop-low-test.true (says _ _ (omega arith) c.if-below.ensures);
}

pub returns-clause-search : goal.returns-clause-search
returns-clause-search g c test says = half-done (c.loop-low.invariant.left test says) c.loop-low-test.false
