-- `store_lookup::fitness::directions_for` meets its contract. Assumes nothing.
use borrow.Author.Rules.{rules}
use Rattle.laws.specs.Fitness.{power-zero, power-one, power-two, power-three}
use Rattle.store_lookup.proofs.fitness.directions_for.Statement.{statement}
use Rattle.store_lookup.proofs.fitness.directions_for.Tie as tie

pub directions_for_spec : {M : Type 1} → statement M
directions_for_spec =
    tie.close
    (tie.spec (λ c. search (power-zero, rules)) (λ c. search (power-one, rules))
    (λ c. search (power-two, rules)) (λ c. search (power-three, rules)))
