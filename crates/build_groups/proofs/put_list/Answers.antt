-- proofs/put_list/Answers.antt
use Rattle.std.proofs.Common.{◌≡◌, ap, ◌∙◌, arith, ◌+◌, ◌*◌}
use lib.ListN.{drop_of_length-le}
use Rattle.rules.specs.Words.{over}
use Rattle.laws.specs.Slices.{drop-next}
use Rattle.build_groups.proofs.Records.{wrote, ended}
use Rattle.build_groups.proofs.put_list.Goals as goal

pub loop-i-preserved : goal.loop-i-preserved
loop-i-preserved c =
    let here : c.args.at + (c.loop-i.i + 1) * 8 ≡ c.args.at + c.loop-i.i * 8 + 8 = omega arith in
    rw here (wrote (rw (drop-next _ _ c.loop-i-test.true) at c.loop-i.invariant) (c.put_bytes.ensures ∙ ap (over _ _) c.entry_record.ensures))

pub returns : goal.returns
returns c = ended (rw (drop_of_length-le _ {i = c.loop-i.i} c.loop-i-test.false) at c.loop-i.invariant)
