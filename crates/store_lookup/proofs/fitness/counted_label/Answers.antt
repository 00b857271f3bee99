-- A test counts 1 where it holds. Assumes nothing.
use Rattle.std.proofs.Common.{◌≡◌, ◌≤◌, ℕ, Bool, true, false, cond, not, eqb, arith}
use mir.Val.{bool_byte}
use Rattle.laws.specs.Fitness.{counted}
use Rattle.store_lookup.proofs.fitness.counted_label.Goals as goal

one : (t : Bool) (r : ℕ) → r ≡ bool_byte (not t) → (r ≡ cond t 0 1) × (r ≤ 1)
one true r e = (e, omega (arith, e))
one false r e = (e, omega (arith, e))

pub returns : goal.returns
unfolding counted
returns c = one (eqb c.args.label 0) _ c.from.ensures
