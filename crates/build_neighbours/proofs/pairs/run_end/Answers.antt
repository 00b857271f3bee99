use Rattle.std.proofs.Common.{rules, tests, ◌≡◌, ◌/◌, get_or}
use Rattle.std.proofs.lemmas.Iterator.{YieldsList-from_slice, IsFirst-from_position}
use Rattle.build_neighbours.proofs.Arranging.{other-told, none-told}
use Rattle.build_neighbours.proofs.pairs.run_end.Goals as goal

pub returns-in-Some : goal.returns-in-Some
returns-in-Some c =
    let u = get_or c.args.words.now c.args.i 0 / 65536 in
    let first = IsFirst-from_position _ _ _ (λ w. w / 65536 ≡ u → ⊥) (λ w. w / 65536 ≡ u) c.position.ensures.ran (YieldsList-from_slice _ c.iter.ensures.rest) (λ x q k. search (rules, tests)) (λ x q k. search (rules, tests)) in
    other-told c.args.words.now c.args.i c.requires.1 c.requires.0 c.in-Some.n (rw c.in-Some.is at first)

pub returns-in-None : goal.returns-in-None
returns-in-None c =
    let u = get_or c.args.words.now c.args.i 0 / 65536 in
    let first = IsFirst-from_position _ _ _ (λ w. w / 65536 ≡ u → ⊥) (λ w. w / 65536 ≡ u) c.position.ensures.ran (YieldsList-from_slice _ c.iter.ensures.rest) (λ x q k. search (rules, tests)) (λ x q k. search (rules, tests)) in
    none-told c.args.words.now c.args.i c.requires.1 c.requires.0 (rw c.in-None.is at first)
