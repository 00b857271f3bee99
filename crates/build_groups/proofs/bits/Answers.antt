-- proofs/bits/Answers.antt
use Rattle.std.proofs.Common.{◌≡◌, refl, arith, ℕ, ◌+◌, ◌*◌, ◌<◌, Bool, true, false, cond, List}
use mir.Val.{bool_byte}
use Rattle.build_edges.specs.Packed.{word_in}
use Rattle.build_groups.specs.Emit.{bits_of}
use Rattle.build_groups.proofs.bits.Goals as goal

each : (a b : Bool) → (bool_byte a + 2 * bool_byte b ≡ cond a 1 0 + cond b 2 0) × (bool_byte a + 2 * bool_byte b < 4)
each true true = (refl, omega arith)
each true false = (refl, omega arith)
each false true = (refl, omega arith)
each false false = (refl, omega arith)

told : (ws : List ℕ) (u v : ℕ) {a b : Bool} {x y : ℕ} → a ≡ word_in ws u v → b ≡ word_in ws v u → x ≡ bool_byte a → y ≡ bool_byte b → (x + 2 * y ≡ bits_of ws u v) × (x + 2 * y < 4)
unfolding bits_of
told ws u v {a} {b} p q r s = rw (r, s, ← p, ← q) (each a b)

pub returns : goal.returns
returns c = told _ _ _ c.edge_in-forward.ensures c.edge_in-back.ensures c.from.ensures c.from-2.ensures
