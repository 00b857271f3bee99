-- The equations of `halving`, and the invariant of a binary search with a law for each need. Assumes nothing.
use Rattle.std.specs.Prelude.{◌≡◌, refl, Bool, true, false, ℕ, zero, suc, ◌+◌, ◌-◌, ◌/◌, ◌<◌, ◌≤◌}
use Rattle.std.proofs.Common.{sym, ap, ◌∙◌, arith, lt-ltb, le-ltb}
use Rattle.rules.specs.Lists.{halving}

module _ (p : ℕ → Bool) (n low high : ℕ) where
  pub halving-up : low < high → p ((low + high) / 2) ≡ true → halving p (suc n) low high ≡ halving p n ((low + high) / 2 + 1) high
  unfolding halving
  halving-up h e = rw (lt-ltb low high h, e, halving)

  pub halving-down : low < high → p ((low + high) / 2) ≡ false → halving p (suc n) low high ≡ halving p n low ((low + high) / 2)
  unfolding halving
  halving-down h e = rw (lt-ltb low high h, e, halving)

pub halving-end : (p : ℕ → Bool) (n low high : ℕ) → high ≤ low → halving p n low high ≡ low
unfolding halving
halving-end p zero low high h = refl
halving-end p (suc n) low high h = rw (le-ltb low high h, halving)

-- enough steps are left, and they end where all of them do
pub record HalvingLeft (p : ℕ → Bool) (g low high whole : ℕ) : Type 0 where
  pub steps : ℕ
  pub enough : high - low ≤ steps
  pub ordered : low ≤ high
  pub within : high ≤ g
  pub rest : whole ≡ halving p steps low high

pub half-start : (p : ℕ → Bool) (g : ℕ) → HalvingLeft p g 0 g (halving p g 0 g)
half-start p g = record { steps = g; enough = omega arith; ordered = omega arith; within = omega arith; rest = refl }

module _ {p : ℕ → Bool} {g low high whole : ℕ} (inv : HalvingLeft p g low high whole) where
  turn : low < high → whole ≡ halving p (suc (inv.steps - 1)) low high
  turn h =
      let e : inv.steps ≡ suc (inv.steps - 1) = omega arith in
      inv.rest ∙ ap (λ n. halving p n low high) e

  pub half-up : {r : Bool} → low < high → r ≡ p ((low + high) / 2) → r ≡ true → HalvingLeft p g ((low + high) / 2 + 1) high whole
  half-up h q e = record {
    steps = inv.steps - 1;
    enough = omega arith;
    ordered = omega arith;
    within = inv.within;
    rest = turn h ∙ halving-up p (inv.steps - 1) low high h (sym q ∙ e);
  }

  pub half-down : {r : Bool} → low < high → r ≡ p ((low + high) / 2) → r ≡ false → HalvingLeft p g low ((low + high) / 2) whole
  half-down h q e = record {
    steps = inv.steps - 1;
    enough = omega arith;
    ordered = omega arith;
    within = omega arith;
    rest = turn h ∙ halving-down p (inv.steps - 1) low high h (sym q ∙ e);
  }

  pub half-done : high ≤ low → low ≡ whole
  half-done h = sym (inv.rest ∙ halving-end p inv.steps low high h)
