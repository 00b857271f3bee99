-- proofs/passes/visit/Answers.antt
use Rattle.std.proofs.Common.{refl}
use Rattle.build_index.proofs.Visiting.{fresh-key, visited-none, visited-each}
use Rattle.build_index.proofs.passes.visit.Goals as goal

pub visit_none-requires : goal.visit_none-requires
visit_none-requires c = (fresh-key 0, c.requires.1)

pub returns-then-d-eq0 : goal.returns-then-d-eq0
returns-then-d-eq0 c =
    visited-none _ _ _ _ _ _ _ _ _ _ c.constraint_at-d.ensures c.above_for.ensures refl c.if-d-eq0.true c.visit_none.ensures

pub visit_each-requires : goal.visit_each-requires
visit_each-requires c = ((refl, fresh-key 0), c.requires.1)

pub returns : goal.returns
returns c =
    visited-each _ _ _ _ _ _ _ _ _ _ c.constraint_at-d.ensures c.above_for.ensures refl c.if-d-eq0.false refl c.visit_each.ensures
