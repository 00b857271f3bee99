use Rattle.std.proofs.Common.{rules, tests, refl}
use Rattle.rules.specs.Store.{edge_right, edges_right}
use Rattle.laws.specs.Chains.{all_from-answered}
use Rattle.store_records.proofs.edges_right.Goals as goal

pub returns : goal.returns
unfolding edges_right
returns c = all_from-answered (edge_right c.args.n c.args.edges.now) _ _ _ c.all.ensures.ran refl (λ x b q k. search (rules, tests))
