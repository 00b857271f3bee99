-- `store_lookup::fitness::id_above` meets its contract. Assumes nothing.
use borrow.Author.Rules.{rules}
use Rattle.store_lookup.proofs.fitness.id_above.Statement.{statement}
use Rattle.store_lookup.proofs.fitness.id_above.Tie as tie

pub id_above_spec : {M : Type 1} → statement M
id_above_spec =
    tie.close
    (tie.spec (λ c. search rules) (λ c κs. search rules) (λ c. search rules) (λ c κs. search rules) (λ c. cc))
