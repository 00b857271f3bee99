-- `store_lookup::fitness::each_joined` meets its contract. Assumes nothing.
use borrow.Author.Rules.{rules}
use Rattle.laws.specs.Fitness.{all-joined}
use Rattle.store_lookup.proofs.fitness.each_joined.Statement.{statement}
use Rattle.store_lookup.proofs.fitness.each_joined.Tie as tie

pub each_joined_spec : {M : Type 1} → statement M
each_joined_spec =
    tie.close
    (tie.spec (λ c. search (all-joined, rules)))
