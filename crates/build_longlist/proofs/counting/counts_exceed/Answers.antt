use Rattle.std.proofs.Common.{rules, arith}
use Rattle.build_longlist.proofs.Counts.{count-start, count-inside, count-spare, count-next, count-stop, count-done}
use Rattle.build_longlist.proofs.counting.counts_exceed.Goals as goal

pub loop-v-init : goal.loop-v-init
loop-v-init c = count-start (c.fill.ensures.after (λ y e. search rules)) c.requires.0.0 c.requires.0.1

pub words_of-near-requires : goal.words_of-near-requires
words_of-near-requires c = (count-inside c.loop-v.invariant c.loop-v-test.true c.requires.1.0 c.requires.1.1.1, c.requires.1.0.strict)

pub count_near-requires : goal.count_near-requires
count_near-requires c =
    let long = c.requires.0.0 in
    (omega arith, (count-spare c.loop-v.invariant c.loop-v-test.true c.requires.1.0 c.requires.1.1.1 c.words_of-near.ensures c.requires.1.1.0, c.loop-v.invariant.low))

pub returns-then-count_near : goal.returns-then-count_near
returns-then-count_near c = count-stop c.loop-v.invariant c.loop-v-test.true c.requires.1.0 c.requires.1.1.1 c.words_of-near.ensures (c.count_near.ensures.0 c.if-count_near.true)

pub loop-v-preserved : goal.loop-v-preserved
loop-v-preserved c = count-next c.loop-v.invariant c.loop-v-test.true c.requires.1.0 c.requires.1.1.1 c.words_of-near.ensures (c.count_near.ensures.1 c.if-count_near.false)

pub returns : goal.returns
returns c = count-done c.loop-v.invariant c.requires.0.1 c.loop-v-test.false
