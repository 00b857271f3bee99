use Rattle.build_neighbours.specs.Arrange.{key_of}
use Rattle.build_neighbours.proofs.places.key.Goals as goal

pub returns : goal.returns
unfolding key_of
returns c = cc
