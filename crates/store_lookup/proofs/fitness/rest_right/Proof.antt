-- `store_lookup::fitness::rest_right` meets its contract. Assumes nothing.
use borrow.Author.Rules.{rules}
use Rattle.rules.specs.Listing.{rest_right}
use Rattle.store_lookup.proofs.fitness.rest_right.Statement.{statement}
use Rattle.store_lookup.proofs.fitness.rest_right.Tie as tie

pub rest_right_spec : {M : Type 1} → statement M
unfolding rest_right
rest_right_spec =
    tie.close
    (tie.spec (λ c. search rules) (λ c. search rules) (λ c. search rules) (λ c. search rules) (λ c. search rules)
    (λ c. search rules) (λ c. search rules) (λ c. search rules) (λ c. search rules) (λ c. cc))
