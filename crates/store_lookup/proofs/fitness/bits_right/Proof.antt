-- `store_lookup::fitness::bits_right` meets its contract. Assumes nothing.
use borrow.Author.Rules.{rules}
use Rattle.rules.specs.Listing.{bits_right}
use Rattle.store_lookup.proofs.fitness.bits_right.Statement.{statement}
use Rattle.store_lookup.proofs.fitness.bits_right.Tie as tie

pub bits_right_spec : {M : Type 1} → statement M
unfolding bits_right
bits_right_spec =
    tie.close
    (tie.spec (λ c. search rules) (λ c. search rules) (λ c. search rules) (λ c κs. search rules) (λ c. cc))
