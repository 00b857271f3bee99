-- proofs/list_same/Answers.antt
use Rattle.std.proofs.Common.{◌≡◌, ap, ◌∙◌, arith, ◌+◌, ◌*◌}
use lib.ListN.{drop_of_length-le}
use Rattle.rules.specs.Answers.{same}
use Rattle.laws.specs.Slices.{drop-next}
use Rattle.build_groups.proofs.Comparing.{entry-next, entry-stop, entries-done}
use Rattle.build_groups.proofs.list_same.Goals as goal

pub returns-then-not-bytes_same : goal.returns-then-not-bytes_same
returns-then-not-bytes_same c =
    entry-stop (rw (drop-next _ _ c.loop-i-test.true) at c.loop-i.invariant) (c.bytes_same.ensures ∙ ap (same _) c.entry_record-own.ensures) c.if-not-bytes_same.true

pub loop-i-preserved : goal.loop-i-preserved
loop-i-preserved c =
    let here : c.args.at + (c.loop-i.i + 1) * 8 ≡ c.args.at + c.loop-i.i * 8 + 8 = omega arith in
    rw here
    (entry-next (rw (drop-next _ _ c.loop-i-test.true) at c.loop-i.invariant) (c.bytes_same.ensures ∙ ap (same _) c.entry_record-own.ensures) c.if-not-bytes_same.false)

pub returns : goal.returns
returns c = entries-done (rw (drop_of_length-le _ {i = c.loop-i.i} c.loop-i-test.false) at c.loop-i.invariant)
