use Rattle.build_edges.proofs.Filling.{begun, filled, ended}
use Rattle.build_edges.proofs.adjacency.put_backward.Goals as goal

pub loop-i-init : goal.loop-i-init
loop-i-init c = begun _ _ _

pub loop-i-preserved : goal.loop-i-preserved
loop-i-preserved c = filled c.loop-i.invariant _ c.loop-i-test.true c.requires.0 c.backward_at.ensures

pub returns : goal.returns
returns c = ended c.loop-i.invariant c.loop-i-test.false
