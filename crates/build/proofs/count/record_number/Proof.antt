-- `build::count::record_number` meets its contract. Assumes nothing.
use Rattle.std.proofs.Math.Path.{ap}
use Rattle.std.proofs.Math.Bool.{not}
use native.Mathlib.Omega.{arith}
use Rattle.laws.specs.Header.{header-ends}
use Rattle.build.proofs.Numbers.{record-two, record-three, record-none}
use Rattle.build.proofs.count.record_number.Statement.{statement}
use Rattle.build.proofs.count.record_number.Tie as tie

records-right-requires : tie.Need-records_right-requires
records-right-requires c κs =
    let e = header-ends _ c.requires in
    omega arith

returns : tie.Need-returns-then-not-records_right
returns c = record-two _ _ c.records_right.ensures (ap not c.if-not-records_right.true)

own-constraints-right-requires : tie.Need-own_constraints_right-requires
own-constraints-right-requires c κs =
    let e = header-ends _ c.requires in
    omega arith

returns-2 : tie.Need-returns-then-not-own_constraints_right
returns-2 c = record-three _ _ c.records_right.ensures (ap not c.if-not-records_right.false) _ c.own_constraints_right.ensures (ap not c.if-not-own_constraints_right.true)

returns-3 : tie.Need-returns
returns-3 c = record-none _ _ c.records_right.ensures (ap not c.if-not-records_right.false) _ c.own_constraints_right.ensures (ap not c.if-not-own_constraints_right.false)

pub record_number_spec : {M : Type 1} → statement M
record_number_spec = tie.close (tie.spec records-right-requires returns own-constraints-right-requires returns-2 returns-3)
