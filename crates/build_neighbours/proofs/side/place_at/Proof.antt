-- `build_neighbours::side::place_at` meets its contract. Assumes nothing.
use borrow.Author.Rules.{rules}
use Rattle.build_neighbours.specs.Side.{place_of}
use Rattle.build_neighbours.proofs.Sought.{node-room}
use Rattle.build_neighbours.proofs.side.place_at.Statement.{statement}
use Rattle.build_neighbours.proofs.side.place_at.Tie as tie

label-at-requires : tie.Need-label_at-l-requires
label-at-requires c κs = node-room _ c.requires.1 c.requires.0

returns : tie.Need-returns
unfolding place_of
returns c = cc

pub place_at_spec : {M : Type 1} → statement M
place_at_spec = tie.close (tie.spec (λ c. search rules) (λ c. search rules) (λ c. search rules) label-at-requires (λ c κs. search rules) returns)
