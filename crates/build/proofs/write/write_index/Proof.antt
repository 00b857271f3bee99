-- `build::write::write_index` meets its contract. Assumes nothing.
use borrow.Author.Rules.{rules}
use native.Mathlib.Omega.{arith}
use Rattle.laws.specs.Header.{header-long}
use Rattle.build.proofs.Written.{placed-write, index-written}
use Rattle.build.proofs.write.write_index.Statement.{statement}
use Rattle.build.proofs.write.write_index.Tie as tie

groups-at-requires : tie.Need-groups_at-table-requires
groups-at-requires c κs = header-long _ c.requires.0.right.header

mul-t9 : tie.Need-overflow_mul-task
mul-t9 c = search rules

add-t10 : tie.Need-overflow_add-task
add-t10 c = search rules

pass-requires : tie.Need-pass-requires
pass-requires c κs =
    let s = c in
    let e = c.groups_at-table.ensures in
    let h = s.requires.1.1.1 in
    (s.requires.0, placed-write _ _ _ _ _ (omega arith))

same-length : tie.Need-shape_of-room
same-length c = search rules

returns : tie.Need-returns
returns c =
    let s = c in
    let e = c.groups_at-table.ensures in
    let h = s.requires.1.1.1 in
    rw e at (index-written s.requires.0.right _ _ _ c.pass.result _ _ s.requires.1.0 s.requires.1.1.0 (omega arith) c.pass.ensures)

pub write_index_spec : {M : Type 1} → statement M
write_index_spec = tie.close (tie.spec groups-at-requires mul-t9 add-t10 pass-requires same-length returns)
