-- `build_neighbours::places::arrange_all` meets its contract. Arranging.antt has the loop's state and its laws. Assumes nothing.
use borrow.Author.Rules.{rules}
use native.Mathlib.Omega.{arith}
use mathlib.Core.Path.{◌≡◌, refl, ◌∙◌}
use Prim.Native.Nat.{◌+◌, ◌-◌, ◌≤◌}
use lib.ListN.{length}
use Rattle.build_neighbours.proofs.Arranging.{Arranging, small, arranging, all-arranged, rest-asked, run-within, run-asked, run-next}
use Rattle.build_neighbours.proofs.places.arrange_all.Statement.{statement}
use Rattle.build_neighbours.proofs.places.arrange_all.Tie as tie
use Rattle.build_neighbours.proofs.places.arrange_all.Reads as reads
use Rattle.build_neighbours.proofs.places.arrange_all.Lts as lts
use Rattle.build_neighbours.proofs.places.arrange_one.Reads as arrange-one-reads
use Rattle.build_neighbours.proofs.pairs.run_end.Reads as run-end-reads

abbrev invariant-loop : tie.invariant-loop-i
invariant-loop nodes words₀ keys₀ scratch₀ i₀ words keys scratch i = Arranging nodes words₀ i words × (length keys ≡ length keys₀) × (length scratch ≡ length scratch₀)

abbrev decreases-loop : tie.decreases-loop-i
decreases-loop nodes words₀ keys₀ scratch₀ i₀ words keys scratch i = length words₀ - i

loop-holds : tie.Need-loop-i-init invariant-loop decreases-loop
loop-holds c = (arranging _ _, refl, refl)

run-end-requires : tie.Need-run_end-requires invariant-loop decreases-loop
run-end-requires c κs =
    let turn = c in
    let head = turn in
    let s = head in
    rest-asked head.loop-i.invariant.0 s.requires.1.0 turn.loop-i-test.true

abbrev Ended : Type 0
Ended = lts.After-run_end (run-end-reads.Asked, run-end-reads.Learnt, arrange-one-reads.Asked, arrange-one-reads.Learnt) reads.Pre reads.Post invariant-loop decreases-loop

run-ends : (c : Ended) → c.loop-i.i + c.run_end.result ≤ length c.loop-i.words
run-ends c =
    let turn = c in
    let head = turn in
    let s = head in
    run-within head.loop-i.invariant.0 s.requires.1.0 turn.loop-i-test.true _ c.run_end.ensures

add-end : tie.Need-overflow_add-end invariant-loop decreases-loop
add-end c = omega (arith, run-ends c)

sub-arrange-one : tie.Need-slice_bounds-arrange_one-count invariant-loop decreases-loop
sub-arrange-one c = omega (arith, run-ends c)

part-arrange-one-start : tie.Need-slice_bounds-arrange_one-start invariant-loop decreases-loop
part-arrange-one-start c = omega (arith, run-ends c)

part-arrange-one-end : tie.Need-slice_bounds-arrange_one-end invariant-loop decreases-loop
part-arrange-one-end c = omega (arith, run-ends c)

arrange-one-requires : tie.Need-arrange_one-requires invariant-loop decreases-loop
arrange-one-requires c κs =
    let ended = c in
    let turn = ended in
    let head = turn in
    let s = head in
    run-asked head.loop-i.invariant.0 s.requires.1.0 turn.loop-i-test.true _ ended.run_end.ensures head.loop-i.keys head.loop-i.scratch (omega arith) (omega arith) s.requires.1.1

loop-less : tie.Need-loop-i-smaller invariant-loop decreases-loop
loop-less c = omega (arith, run-within c.loop-i.invariant.0 c.requires.1.0 c.loop-i-test.true _ c.run_end.ensures)

loop-again : tie.Need-loop-i-preserved invariant-loop decreases-loop
loop-again c =
    let one = c in
    let ended = one in
    let turn = ended in
    let head = turn in
    let s = head in (
      run-next head.loop-i.invariant.0 s.requires.1.0 turn.loop-i-test.true _ ended.run_end.ensures (small s.args.nodes.now (λ k. omega (arith, head.shared_slice_known-1.given k))) _ one.arrange_one.ensures,
      one.arrange_one.auto.keys ∙ head.loop-i.invariant.1,
      one.arrange_one.auto.scratch ∙ head.loop-i.invariant.2,
    )

same-length : tie.Need-shape_of-words invariant-loop decreases-loop
same-length c = c.loop-i.invariant.0.same

same-length-2 : tie.Need-shape_of-keys invariant-loop decreases-loop
same-length-2 c = c.loop-i.invariant.1

same-length-3 : tie.Need-shape_of-scratch invariant-loop decreases-loop
same-length-3 c = c.loop-i.invariant.2

returns : tie.Need-returns invariant-loop decreases-loop
returns c = all-arranged c.loop-i.invariant.0 c.loop-i-test.false

pub arrange_all_spec : {M : Type 1} → statement M
arrange_all_spec =
    tie.close
    (tie.spec
    invariant-loop
    decreases-loop
    loop-holds
    (λ c. search rules)
    (λ c. search rules)
    (λ c. search rules)
    (λ c. search rules)
    run-end-requires
    add-end
    (λ c. search rules)
    sub-arrange-one
    part-arrange-one-start
    part-arrange-one-end
    arrange-one-requires
    loop-less
    loop-again
    same-length
    same-length-2
    same-length-3
    returns)
