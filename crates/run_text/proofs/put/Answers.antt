-- The bytes are copied over the room from the place on. Assumes nothing.
use Rattle.std.proofs.Common.{◌∙◌, ap, arith, length, refl}
use Rattle.laws.specs.Copied.{put_mid-over}
use Rattle.laws.specs.Over.{length-over}
use Rattle.run_text.proofs.put.Goals as goal

pub returns : goal.returns
returns c =
    let bytes = c.args.bytes.now in
    let room = put_mid-over c.args.out.now bytes _ c.args.at _ c.copy_from_slice.ensures.after (omega arith) in
    record { room = room; size = ap length room ∙ length-over c.args.out.now c.args.at bytes c.requires; place = refl }
