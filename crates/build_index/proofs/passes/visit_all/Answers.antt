-- proofs/passes/visit_all/Answers.antt
use Rattle.std.proofs.Common.{ℕ, List}
use Rattle.std.proofs.lemmas.Result.{err_from_is_err_and}
use Rattle.rules.specs.Store.{constraints_in}
use Rattle.laws.specs.Loops.{FoldLeft, fold-start, fold-next, fold-done}
use Rattle.build_groups.specs.declared.Purpose.{Purpose}
use Rattle.build_groups.specs.Emit.{Output}
use Rattle.build_keys.specs.Pass.{visited, visited_all}
use Rattle.build_index.proofs.Visiting.{ready-same, all-broken}
use Rattle.build_index.proofs.passes.visit_all.Goals as goal

start : (task : Purpose) (nodes joined words constraints store : List ℕ) (s : Output)
    → FoldLeft (visited task nodes joined words constraints store) (constraints_in constraints) 0 s (visited_all task nodes joined words constraints store s)
unfolding visited_all
start task nodes joined words constraints store s = fold-start (visited task nodes joined words constraints store) (constraints_in constraints) s

pub loop-c-init : goal.loop-c-init
loop-c-init c = start _ _ _ _ _ _ _

pub visit-requires : goal.visit-requires
visit-requires c =
    let p = c.requires in
    let kept = c.loop-c.auto in
    ((c.loop-c-test.true, p.0), ready-same p.1 kept.scratch kept.room)

pub loop-c-preserved : goal.loop-c-preserved
loop-c-preserved c = fold-next c.loop-c.invariant _ c.loop-c-test.true c.in_ok-t.ensures

pub returns-in_err-t : goal.returns-in_err-t
returns-in_err-t c =
    let p = err_from_is_err_and c.from_residual.result c.from_residual.ensures.1 in
    rw (p.1, p.2) (all-broken _ _ _ _ _ _ c.loop-c.invariant c.loop-c-test.true c.in_err-t.ensures)

pub returns : goal.returns
returns c = fold-done c.loop-c.invariant c.loop-c-test.false
