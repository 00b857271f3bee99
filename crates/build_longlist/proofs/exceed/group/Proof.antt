-- `build_longlist::exceed::group` meets its contract. Assumes nothing.
use borrow.Author.Rules.{rules}
use native.Mathlib.Omega.{arith}
use lib.ListN.{length-take}
use Rattle.build_longlist.proofs.Sifting.{sorted-front}
use Rattle.build_longlist.proofs.exceed.group.Statement.{statement}
use Rattle.build_longlist.proofs.exceed.group.Tie as tie

slice-aggregate-sort : tie.Need-slice_bounds-sort-end-2
slice-aggregate-sort c = simp length-take (omega arith)

sort-requires : tie.Need-sort-requires
sort-requires c κs = simp length-take (omega arith)

returns : tie.Need-returns
returns c =
    let sift = c.sift-k in
    (sift.ensures.0, sorted-front _ _ _ sift.ensures sift.auto.ids c.sort.ensures.0)

pub group_spec : {M : Type 1} → statement M
group_spec =
    tie.close
    (tie.spec (λ c κs. search rules) (λ c. search rules) slice-aggregate-sort sort-requires (λ c. search rules) (λ c. search rules) returns)
