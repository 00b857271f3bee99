use Rattle.std.proofs.Common.{rules, arith}
use Rattle.laws.specs.Has.{has-get}
use Rattle.build_neighbours.specs.Arrange.{key_of}
use Rattle.build_neighbours.proofs.Written.{made-front}
use Rattle.build_neighbours.proofs.places.put_keys.Goals as goal

pub map_into-requires-clause-callable : goal.map_into-requires-clause-callable
map_into-requires-clause-callable c = λ k h. let q = c.requires.1 _ (has-get c.args.words.now k h) in search rules

pub returns : goal.returns
returns c = made-front (key_of c.args.nodes.now) c.args.words.now _ (omega arith) (λ k h. let q = c.map_into.ensures.made k h in search rules) c.map_into.ensures.kept
