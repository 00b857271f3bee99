use Rattle.std.proofs.Common.{◌∙◌}
use Rattle.plan_cover.proofs.Told.{edge-told}
use Rattle.plan_cover.proofs.edge_covered.Goals as goal

pub returns : goal.returns
returns c = c.is_some.ensures ∙ edge-told _ _ _ _ _ c.best_for_edge.ensures
