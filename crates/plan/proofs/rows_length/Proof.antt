-- `plan::rows_length` meets its contract. Assumes nothing.
use native.Mathlib.Omega.{arith}
use borrow.Author.Rules.{rules}
use Rattle.plan.proofs.rows_length.Statement.{statement}
use Rattle.plan.proofs.rows_length.Tie as tie

pub rows_length_spec : {M : Type 1} → statement M
rows_length_spec = tie.close (tie.spec (λ c κs. search rules) (λ c κs. search rules) (λ c. omega arith) (λ c. omega arith) (λ c. omega arith))
