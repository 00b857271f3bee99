use Rattle.std.proofs.Common.{◌∙◌}
use Rattle.rules.specs.Store.{edge_before}
use Rattle.laws.specs.Pairs.{pair-before}
use Rattle.store_records.proofs.edge_before.Goals as goal

pub returns : goal.returns
unfolding edge_before
returns c =
    let says = c.lt.ensures ∙ pair-before c.from_at.result c.to_at.result c.from_at-2.result c.to_at-2.result in
    cc
