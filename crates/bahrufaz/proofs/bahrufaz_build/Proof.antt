-- `bahrufaz::bahrufaz_build` meets its contract. Assumes nothing.
use borrow.Author.Rules.{rules}
use Rattle.bahrufaz.proofs.Eight.{gives}
use Rattle.bahrufaz.proofs.bahrufaz_build.Statement.{statement}
use Rattle.bahrufaz.proofs.bahrufaz_build.Tie as tie

returns : tie.Need-returns
returns c = gives _ _ _ _ _ c.build-built.ensures c.give.ensures

pub bahrufaz_build_spec : {M : Type 1} → statement M
bahrufaz_build_spec = tie.close (tie.spec (λ c κs. search rules) (λ c κs. search rules) (λ c. search rules) returns)
