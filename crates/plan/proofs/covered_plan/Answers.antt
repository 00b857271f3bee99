use Rattle.std.proofs.lemmas.Result.{err_from_is_err_and}
use Rattle.plan.proofs.covered_plan.Goals as goal

pub returns-in_err-size : goal.returns-in_err-size
returns-in_err-size c =
    let e = err_from_is_err_and c.from_residual.result c.from_residual.ensures.1 in
    rw (e.1, e.2) (rw c.in_err-size.was at c.covered.ensures)

pub returns : goal.returns
returns c = rw c.in_ok-size.was at c.covered.ensures
