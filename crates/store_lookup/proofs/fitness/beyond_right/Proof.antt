-- `store_lookup::fitness::beyond_right` meets its contract. Assumes nothing.
use borrow.Author.Rules.{rules}
use Rattle.rules.specs.Listing.{beyond_right}
use Rattle.store_lookup.proofs.fitness.beyond_right.Statement.{statement}
use Rattle.store_lookup.proofs.fitness.beyond_right.Tie as tie

pub beyond_right_spec : {M : Type 1} → statement M
unfolding beyond_right
beyond_right_spec =
    tie.close
    (tie.spec (λ c. search rules) (λ c. search rules) (λ c. search rules) (λ c κs. search rules) (λ c. cc))
