-- proofs/directions/Answers.antt
use Rattle.std.proofs.Common.{◌≡◌, arith, ℕ, ◌+◌, ◌*◌, List, [], ◌∷◌}
use Rattle.build_groups.specs.Emit.{bits_of, dirs_of}
use Rattle.build_groups.proofs.directions.Goals as goal

three : (ws : List ℕ) (a b c v x y z : ℕ) → x ≡ bits_of ws a v → y ≡ bits_of ws b v → z ≡ bits_of ws c v → x + 4 * (y + 4 * z) ≡ dirs_of ws (a ∷ b ∷ c ∷ []) v
unfolding dirs_of
three ws a b c v x y z p q r = omega arith

pub returns : goal.returns
returns c = three _ _ _ _ _ _ _ _ c.bits.ensures.0 c.bits-2.ensures.0 c.bits-3.ensures.0
