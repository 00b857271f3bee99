-- `build::write_store` meets its contract. Assumes nothing.
use borrow.Author.Rules.{rules}
use native.Mathlib.Omega.{arith}
use lib.ListN.{length-take, length-drop}
use Rattle.laws.specs.Header.{draft-header, header-long, header-limits}
use Rattle.build.proofs.Written.{index-lengths}
use Rattle.build.proofs.Built.{draft-ends, store-written}
use Rattle.build.proofs.write_store.Statement.{statement}
use Rattle.build.proofs.write_store.Tie as tie

put-header-requires : tie.Need-put_header-requires
put-header-requires c κs =
    let f = c.requires.0 in
    let h = draft-header _ f.header in
    let long = header-long _ h in
    let fits = f.fits in
    ((long, omega arith), (header-limits _ h, (f.few_groups, f.few_entries)))

sub-put-bytes : tie.Need-slice_bounds-put_bytes-count
sub-put-bytes c =
    let f = c.requires.0 in
    let h = draft-header _ f.header in
    let long = header-long _ h in
    let fits = f.fits in
    search rules

part-put-bytes-start : tie.Need-slice_bounds-put_bytes-start
part-put-bytes-start c =
    let f = c.requires.0 in
    let h = draft-header _ f.header in
    let long = header-long _ h in
    let fits = f.fits in
    search rules

part-put-bytes-end : tie.Need-slice_bounds-put_bytes-end
part-put-bytes-end c = search rules

put-bytes-requires : tie.Need-put_bytes-requires
put-bytes-requires c κs =
    let f = c.requires.0 in
    let h = draft-header _ f.header in
    let long = header-long _ h in
    let fits = f.fits in
    let kept = c.put_header.auto.room in
    simp (length-take, length-drop) (omega arith)

write-index-requires : tie.Need-write_index-requires
write-index-requires c κs =
    let s = c in
    let f = s.requires.0 in
    let h = draft-header _ f.header in
    let long = header-long _ h in
    let fits = f.fits in
    let l = index-lengths f.right _ _ f.groups f.entries in
    let ends = draft-ends _ _ _ f.header f.groups f.entries l.0 l.1 in
    let kept = c.put_header.auto.room in
    let again = c.put_bytes.auto.room in
    (s.requires.1, (f.groups, (f.entries, omega arith)))

same-length : tie.Need-shape_of-room
same-length c = search rules

returns : tie.Need-returns
returns c =
    let f = c.requires.0 in
    let h = draft-header _ f.header in
    let long = header-long _ h in
    let fits = f.fits in
    let l = index-lengths f.right _ _ f.groups f.entries in
    store-written _ _ _ f.header f.groups f.entries l.0 l.1 _ _ _ _ f.fits c.put_header.ensures c.put_bytes.ensures c.write_index.ensures

pub write_store_spec : {M : Type 1} → statement M
write_store_spec =
    tie.close
    (tie.spec put-header-requires sub-put-bytes part-put-bytes-start part-put-bytes-end put-bytes-requires write-index-requires same-length returns)
