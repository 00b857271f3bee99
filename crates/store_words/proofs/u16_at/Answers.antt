use Rattle.std.proofs.Common.{arith}
use Rattle.rules.specs.Words.{u16_at}
use Rattle.store_words.proofs.u16_at.Goals as goal

pub returns : goal.returns
unfolding u16_at
returns c = omega (arith, c.from_le_bytes.ensures)
