use Rattle.laws.specs.Cases.{decide}
use Rattle.build_edges.specs.Near.{is_labelled}
use Rattle.build_edges.proofs.near.is_labelled.Goals as goal

pub returns-then-nodes-v : goal.returns-then-nodes-v
unfolding is_labelled
returns-then-nodes-v c = search decide

pub returns : goal.returns
unfolding is_labelled
returns c = search decide
