-- `build::count::own_constraints_right` meets its contract. Assumes nothing.
use borrow.Author.Rules.{rules}
use Rattle.build.proofs.count.own_constraints_right.Statement.{statement}
use Rattle.build.proofs.count.own_constraints_right.Tie as tie

constraint-part-requires : tie.Need-constraint_part-requires
constraint-part-requires c κs = search rules

constraints-right-requires : tie.Need-constraints_right-requires
constraints-right-requires c κs = search rules

returns : tie.Need-returns
returns c = cc

pub own_constraints_right_spec : {M : Type 1} → statement M
own_constraints_right_spec =
    tie.close (tie.spec constraint-part-requires constraints-right-requires returns)
