use Rattle.std.proofs.Common.{sym, ◌∙◌}
use Rattle.plan_cover.proofs.Told.{ones-small, all-told}
use Rattle.plan_cover.proofs.all_covered.Goals as goal

pub edges_covered-requires : goal.edges_covered-requires
edges_covered-requires c = ones-small _ _ _ c.cover-figures.ensures

pub returns-then-nodes_covered : goal.returns-then-nodes_covered
returns-then-nodes_covered c =
    c.edges_covered.ensures ∙ rw (sym c.nodes_covered.ensures ∙ c.if-nodes_covered.true) at (all-told _ _ _ _ c.args.asked.given c.cover-figures.ensures)

pub returns-else-nodes_covered : goal.returns-else-nodes_covered
returns-else-nodes_covered c =
    c.if-nodes_covered.false ∙ rw (sym c.nodes_covered.ensures ∙ c.if-nodes_covered.false) at (all-told _ _ _ _ c.args.asked.given c.cover-figures.ensures)
