use Rattle.std.proofs.Common.{rules, refl, arith, length-take, length-drop}
use Rattle.build_neighbours.specs.Pairs.{turned}
use Rattle.build_neighbours.proofs.Written.{made-behind}
use Rattle.build_neighbours.proofs.pairs.add_turned.Goals as goal

pub returns : goal.returns
unfolding turned
returns c = (
  refl,
  made-behind turned c.args.words.now c.args.out.now _ c.args.k _ c.requires (rw c.map_into.auto.out (simp (length-take, length-drop) (omega arith))) (λ j h. let q = c.map_into.ensures.made j h in search rules),
)
