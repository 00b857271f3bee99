use Rattle.std.proofs.Common.{sym, ◌∙◌}
use Rattle.plan_ways.proofs.Ends.{most-told}
use Rattle.plan_ways.proofs.Looking.{by-none, by-unsuited, by-slots}
use Rattle.plan_ways.proofs.Lent.way_by.Goals as goal

pub returns-then-label-k : goal.returns-then-label-k
returns-then-label-k c = by-none _ _ _ _ _ _ _ _ _ _ c.constraint_at-k.ensures c.label.ensures c.if-label-k.true

pub returns-then-not-suits_one : goal.returns-then-not-suits_one
returns-then-not-suits_one c =
    let ready = c.args.self.ready in
    by-unsuited _ _ _ _ _ _ _ _ _ _ c.constraint_at-k.ensures c.label.ensures (ready.alone _ c.requires.1.0) c.if-label-k.false ready.known.label c.requires.1.1
    (sym c.suits_one.ensures ∙ c.if-not-suits_one.true)

pub slots-requires : goal.slots-requires
slots-requires c = (c.requires.0, (c.requires.1.1, most-told _ _ c.constraint_at-k.ensures (c.args.self.ready.alone _ c.requires.1.0)))

pub returns : goal.returns
returns c =
    let ready = c.args.self.ready in
    by-slots _ _ _ _ _ _ _ _ _ _ c.constraint_at-k.ensures c.label.ensures (ready.alone _ c.requires.1.0) c.if-label-k.false ready.known.label c.requires.1.1
    _ _ (sym c.suits_one.ensures ∙ c.if-not-suits_one.false) c.row_of.ensures c.slots.ensures
