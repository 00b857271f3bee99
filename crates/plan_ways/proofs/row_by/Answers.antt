use Rattle.std.proofs.Common.{rules}
use Rattle.plan_ways.proofs.Choosing.{four-fit}
use Rattle.plan_ways.proofs.row_by.Goals as goal

pub overflow_mul-result-3 : goal.overflow_mul-result-3
overflow_mul-result-3 c =
    let p = c.requires in
    let h = four-fit p.0 p.1.0 p.1.1.0 p.1.1.1 in
    search rules
