-- proofs/emit_one/Answers.antt
use Rattle.std.proofs.Common.{rules, refl, sym, ap, ◌∙◌, not, length}
use Rattle.build_groups.specs.Emit.{counted, going, halted}
use Rattle.build_groups.proofs.Emitting.{emit-over, group-within, entries-within, fits, emit-count, emit-write, emit-compare}
use Rattle.build_groups.proofs.emit_one.Goals as goal

pub returns-then-not-is_within : goal.returns-then-not-is_within
returns-then-not-is_within c = emit-over _ _ _ _ _ _ _ _ _ refl c.is_within.ensures (ap not c.if-not-is_within.true)

pub one_more-next-requires : goal.one_more-next-requires
one_more-next-requires c =
    let g = group-within _ _ _ _ c.is_within.ensures (ap not c.if-not-is_within.false) in
    let e = entries-within _ _ _ _ c.is_within.ensures (ap not c.if-not-is_within.false) in
    search rules

pub write_one-requires : goal.write_one-requires
write_one-requires c =
    (fits _ _ _ _ c.is_within.ensures (ap not c.if-not-is_within.false) _ c.requires.0.0 (c.requires.0.1.writes c.in-Write.is), c.requires.1)

pub one_agrees-requires : goal.one_agrees-requires
one_agrees-requires c =
    (fits _ _ _ _ c.is_within.ensures (ap not c.if-not-is_within.false) _ c.requires.0.0 (c.requires.0.1.reads c.in-Compare.is), c.requires.1)

pub returns-in-Count : goal.returns-in-Count
returns-in-Count c = emit-count _ _ _ _ _ _ _ _ _ refl c.is_within.ensures (ap not c.if-not-is_within.false) c.in-Count.is c.one_more-next.ensures

pub returns-in-Write : goal.returns-in-Write
returns-in-Write c =
    emit-write _ _ _ _ _ _ _ _ _ refl c.is_within.ensures (ap not c.if-not-is_within.false) c.in-Write.is c.write_one.ensures c.one_more-next.ensures

pub returns-then-not-one_agrees : goal.returns-then-not-one_agrees
returns-then-not-one_agrees c =
    emit-compare _ _ _ _ _ _ _ _ _ refl c.is_within.ensures (ap not c.if-not-is_within.false) c.in-Compare.is c.one_agrees.ensures
    (ap halted c.one_more-next.ensures ∙ ap (counted (going c.args.tally) (length c.args.list.now)) (sym (ap not c.if-not-one_agrees.true)))

pub returns-else-not-one_agrees : goal.returns-else-not-one_agrees
returns-else-not-one_agrees c =
    emit-compare _ _ _ _ _ _ _ _ _ refl c.is_within.ensures (ap not c.if-not-is_within.false) c.in-Compare.is c.one_agrees.ensures
    (c.one_more-next.ensures ∙ ap (counted (going c.args.tally) (length c.args.list.now)) (sym (ap not c.if-not-one_agrees.false)))
