-- `build_neighbours::places::arrange_one` meets its contract. Assumes nothing.
use borrow.Author.Rules.{rules}
use native.Mathlib.Omega.{arith}
use Prim.Native.Nat.{◌/◌}
use lib.ListN.{get_or, length-take}
use Rattle.build_neighbours.proofs.Arranging.{by-keys}
use Rattle.build_neighbours.proofs.places.arrange_one.Statement.{statement}
use Rattle.build_neighbours.proofs.places.arrange_one.Tie as tie

slice-aggregate-sort : tie.Need-slice_bounds-sort-end-2
slice-aggregate-sort c = simp length-take (omega arith)

sort-requires : tie.Need-sort-requires
sort-requires c κs = simp length-take (omega arith)

slice-aggregate-put-words : tie.Need-slice_bounds-put_words-end-2
slice-aggregate-put-words c = simp length-take (omega arith)

put-words-requires : tie.Need-put_words-requires
put-words-requires c κs =
    let read = c in
    (omega (arith, read.slice_known-4-1.given 0), simp length-take (omega arith))

returns : tie.Need-returns
returns c =
    let put = c in
    let sorted = put in
    let keyed = sorted in
    let a = keyed.args in
    by-keys a.nodes.now a.words.now a.keys.now _ _ _ (get_or a.words.now 0 0 / 65536) keyed.put_keys.ensures sorted.sort.ensures.0 put.put_words.ensures

pub arrange_one_spec : {M : Type 1} → statement M
arrange_one_spec =
    tie.close
    (tie.spec
    (λ c. search rules)
    (λ c κs. search rules)
    (λ c. search rules)
    slice-aggregate-sort
    sort-requires
    (λ c. search rules)
    slice-aggregate-put-words
    put-words-requires
    (λ c. search rules)
    (λ c. search rules)
    (λ c. search rules)
    returns)
