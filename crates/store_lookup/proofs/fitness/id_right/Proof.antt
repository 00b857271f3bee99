-- `store_lookup::fitness::id_right` meets its contract. Assumes nothing.
use Rattle.rules.specs.Listing.{id_right}
use Rattle.laws.specs.Cases.{decide}
use Rattle.store_lookup.proofs.fitness.id_right.Statement.{statement}
use Rattle.store_lookup.proofs.fitness.id_right.Tie as tie

pub id_right_spec : {M : Type 1} → statement M
unfolding id_right
id_right_spec =
    tie.close
    (tie.spec (λ c κs. search decide) (λ c. search decide) (λ c κs. search decide) (λ c. search decide))
