-- `build_longlist::exceed::sifted` meets its contract. Assumes nothing.
use borrow.Author.Rules.{rules}
use native.Mathlib.Omega.{arith}
use lib.ListN.{length-take}
use Rattle.build_longlist.proofs.Sifting.{tried-front}
use Rattle.build_longlist.proofs.exceed.sifted.Statement.{statement}
use Rattle.build_longlist.proofs.exceed.sifted.Tie as tie

slice-aggregate-group : tie.Need-slice_bounds-group-end-2
slice-aggregate-group c = simp length-take (omega arith)

group-requires : tie.Need-group-requires
group-requires c κs =
    let s = c in
    ((omega arith, simp length-take (omega arith)), (s.requires.1.1.0.strict, s.requires.1.1.1.1))

returns : tie.Need-returns
returns c =
    let tried = c.tried-n in
    let group = c.group in
    tried-front _ _ _ _ tried.ensures.0 tried.ensures.1 group.auto.ids group.ensures

pub sifted_spec : {M : Type 1} → statement M
sifted_spec =
    tie.close
    (tie.spec (λ c κs. search rules) (λ c. search rules) slice-aggregate-group group-requires (λ c. search rules) (λ c. search rules) returns)
