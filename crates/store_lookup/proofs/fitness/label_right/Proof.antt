-- `store_lookup::fitness::label_right` meets its contract. Assumes nothing.
use borrow.Author.Rules.{rules}
use Rattle.rules.specs.Listing.{label_right}
use Rattle.store_lookup.proofs.fitness.label_right.Statement.{statement}
use Rattle.store_lookup.proofs.fitness.label_right.Tie as tie

pub label_right_spec : {M : Type 1} → statement M
unfolding label_right
label_right_spec =
    tie.close
    (tie.spec (λ c. search rules) (λ c κs. search rules) (λ c. search rules) (λ c. search rules) (λ c κs. search rules)
    (λ c. cc))
