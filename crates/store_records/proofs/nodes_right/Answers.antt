use Rattle.std.proofs.Common.{rules, tests, refl}
use Rattle.rules.specs.Store.{node_right, nodes_right}
use Rattle.laws.specs.Chains.{all_from-answered}
use Rattle.store_records.proofs.nodes_right.Goals as goal

pub returns : goal.returns
unfolding nodes_right
returns c = all_from-answered (node_right c.args.nodes.now) _ _ _ c.all.ensures.ran refl (λ x b q k. search (rules, tests))
