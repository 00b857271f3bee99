use Rattle.std.proofs.Common.{rules, arith}
use Rattle.build_neighbours.specs.Arrange.{word_for}
use Rattle.build_neighbours.proofs.Written.{made-front}
use Rattle.build_neighbours.proofs.places.put_words.Goals as goal

pub returns : goal.returns
unfolding word_for
returns c = made-front (word_for c.args.v) c.args.keys.now _ (omega arith) (λ k h. let q = c.map_into.ensures.made k h in search rules) c.map_into.ensures.kept
