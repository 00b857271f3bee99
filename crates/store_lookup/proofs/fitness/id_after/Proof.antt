-- `store_lookup::fitness::id_after` meets its contract. Assumes nothing.
use Rattle.laws.specs.Cases.{decide}
use Rattle.store_lookup.proofs.fitness.id_after.Statement.{statement}
use Rattle.store_lookup.proofs.fitness.id_after.Tie as tie

pub id_after_spec : {M : Type 1} → statement M
id_after_spec =
    tie.close
    (tie.spec (λ c. search decide) (λ c. search decide) (λ c κs. search decide) (λ c. search decide))
