-- proofs/put_bytes/Answers.antt
use Rattle.std.proofs.Common.{◌≡◌, arith, ◌+◌, ◌<◌, length}
use Rattle.laws.specs.Over.{paste-next, paste-done}
use Rattle.build_groups.proofs.put_bytes.Goals as goal

pub loop-i-preserved : goal.loop-i-preserved
loop-i-preserved c =
    let test = c.loop-i-test.true in
    let room : c.args.at + c.loop-i.i < length c.args.room.now = omega arith in
    paste-next _ _ _ _ _ c.loop-i.invariant room test

pub returns : goal.returns
returns c =
    let e : c.loop-i.i ≡ length c.args.bytes.now = omega arith in
    paste-done _ _ _ _ _ c.loop-i.invariant e
