use Rattle.std.proofs.Common.{arith}
use Rattle.rules.specs.Words.{u32_at}
use Rattle.store_words.proofs.u32_at.Goals as goal

pub returns : goal.returns
unfolding u32_at
returns c = omega (arith, c.from_le_bytes.ensures)
