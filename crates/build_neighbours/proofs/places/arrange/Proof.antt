-- `build_neighbours::places::arrange` meets its contract. Assumes nothing.
use borrow.Author.Rules.{rules}
use native.Mathlib.Omega.{arith}
use Rattle.laws.specs.Rooms.{new-long, new-fits}
use Rattle.build_neighbours.proofs.Arranging.{small, arranged}
use Rattle.build_neighbours.proofs.places.arrange.Statement.{statement}
use Rattle.build_neighbours.proofs.places.arrange.Tie as tie

arrange-all-requires : tie.Need-arrange_all-requires
arrange-all-requires c κs = ((new-fits 65536 0, new-fits 65536 0), c.requires.1)

returns : tie.Need-returns
returns c =
    let done = c in
    let known = done in
    let s = known in
    arranged s.args.nodes.now (small s.args.nodes.now (λ k. omega (arith, known.shared_slice_known-1.given k))) _ _ s.requires.1.0 s.requires.1.1 done.arrange_all.ensures

pub arrange_spec : {M : Type 1} → statement M
arrange_spec =
    tie.close
    (tie.spec
    (λ c. new-long 65536 0)
    (λ c. new-long 65536 0)
    arrange-all-requires
    (λ c. search rules)
    returns)
