-- `build_longlist::exceed::goes_with` meets its contract. Assumes nothing.
use borrow.Author.Rules.{rules}
use native.Mathlib.Omega.{arith}
use Rattle.build_longlist.specs.Exceed.{goes_with}
use Rattle.build_longlist.proofs.Exceeding.{goes-from}
use Rattle.build_longlist.proofs.exceed.goes_with.Statement.{statement}
use Rattle.build_longlist.proofs.exceed.goes_with.Tie as tie

returns-2 : tie.Need-returns-then-near-list
returns-2 c =
    let near = c in
    let s = near in
    goes-from _ _ _ _ _ _ near.words_of-near.ensures c.goes_near.ensures s.requires.0 s.requires.1 (omega arith)

pub goes_with_spec : {M : Type 1} → statement M
unfolding goes_with
goes_with_spec =
    tie.close
    (tie.spec (λ c κs. search rules) (λ c. search rules) (λ c κs. search rules) (λ c κs. search rules) returns-2 (λ c κs. search rules) (λ c. search rules))
