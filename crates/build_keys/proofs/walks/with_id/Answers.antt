-- proofs/walks/with_id/Answers.antt
use Rattle.std.proofs.Common.{◌≡◌, ℕ, eq-eqb, ne_eqb}
use Rattle.rules.specs.declared.Key.{Key}
use Rattle.build_keys.specs.Walk.{with_id}
use Rattle.build_keys.proofs.walks.with_id.Goals as goal

module _ (key : Key) (at u : ℕ) where
  zeroth : at ≡ 0 → record { constraint = key.constraint; first = u; second = key.second; third = key.third } ≡ with_id key at u
  unfolding with_id
  zeroth h = rw (eq-eqb at 0 h)

  next : (at ≡ 0 → ⊥) → at ≡ 1 → record { constraint = key.constraint; first = key.first; second = u; third = key.third } ≡ with_id key at u
  unfolding with_id
  next k h = rw (ne_eqb at 0 k, eq-eqb at 1 h)

  last : (at ≡ 0 → ⊥) → (at ≡ 1 → ⊥) → record { constraint = key.constraint; first = key.first; second = key.second; third = u } ≡ with_id key at u
  unfolding with_id
  last k h = rw (ne_eqb at 0 k, ne_eqb at 1 h)

pub returns-then-at-eq0 : goal.returns-then-at-eq0
returns-then-at-eq0 c = zeroth _ _ _ c.if-at-eq0.true

pub returns-then-at-eq1 : goal.returns-then-at-eq1
returns-then-at-eq1 c = next _ _ _ c.if-at-eq0.false c.if-at-eq1.true

pub returns : goal.returns
returns c = last _ _ _ c.if-at-eq0.false c.if-at-eq1.false
