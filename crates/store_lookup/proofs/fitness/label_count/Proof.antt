-- `store_lookup::fitness::label_count` meets its contract. Assumes nothing.
use borrow.Author.Rules.{rules}
use Rattle.laws.specs.Fitness.{label-total}
use Rattle.store_lookup.proofs.fitness.label_count.Statement.{statement}
use Rattle.store_lookup.proofs.fitness.label_count.Tie as tie

pub label_count_spec : {M : Type 1} → statement M
label_count_spec =
    tie.close
    (tie.spec (λ c κs. search rules) (λ c κs. search rules) (λ c. search rules) (λ c κs. search rules) (λ c. search rules)
    (λ c. search (label-total, rules)))
