-- `store_lookup::fitness::id_below` meets its contract. Assumes nothing.
use borrow.Author.Rules.{rules}
use Rattle.store_lookup.proofs.fitness.id_below.Statement.{statement}
use Rattle.store_lookup.proofs.fitness.id_below.Tie as tie

pub id_below_spec : {M : Type 1} → statement M
id_below_spec =
    tie.close
    (tie.spec (λ c. search rules) (λ c κs. search rules) (λ c. search rules) (λ c. cc))
