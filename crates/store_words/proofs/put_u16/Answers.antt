use Rattle.std.proofs.Common.{◌∙◌, arith}
use Rattle.laws.specs.Copied.{put_mid-over}
use Rattle.store_words.proofs.put_u16.Goals as goal

pub returns : goal.returns
returns c = put_mid-over _ _ _ c.args.i _ (c.copy_from_slice.ensures.after ∙ c.to_le_bytes.ensures) (omega arith)
