-- `build::header_same` meets its contract. Assumes nothing.
use borrow.Author.Rules.{rules}
use native.Mathlib.Omega.{arith}
use lib.ListN.{length-take}
use Rattle.build.proofs.Admitted.{compared-left}
use Rattle.build.proofs.header_same.Statement.{statement}
use Rattle.build.proofs.header_same.Tie as tie
use Rattle.laws.specs.Sections.{header-length}

slice-aggregate-put-header : tie.Need-slice_bounds-put_header-end
slice-aggregate-put-header c = search rules

put-header-requires : tie.Need-put_header-requires
put-header-requires c κs = search rules

slice-aggregate-bytes-same : tie.Need-slice_bounds-bytes_same-end
slice-aggregate-bytes-same c = search rules

slice-aggregate-bytes-same-2 : tie.Need-slice_bounds-bytes_same-end-2
slice-aggregate-bytes-same-2 c =
    let long = c.requires.0 in
    simp length-take (omega arith)

bytes-same-requires : tie.Need-bytes_same-requires
bytes-same-requires c κs = search rules

returns : tie.Need-returns
returns c = compared-left _ _ _ _ _ c.bytes_same.ensures c.put_header.ensures (rw header-length (omega arith))

pub header_same_spec : {M : Type 1} → statement M
header_same_spec =
    tie.close
    (tie.spec
    slice-aggregate-put-header
    put-header-requires
    slice-aggregate-bytes-same
    slice-aggregate-bytes-same-2
    bytes-same-requires
    returns)
