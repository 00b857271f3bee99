use Rattle.std.proofs.Common.{◌≡◌, ◌∙◌, sym, ◌%◌, get_or, arith, rules}
use lib.ListN.{length-map}
use Rattle.rules.specs.Lists.{set_of}
use Rattle.laws.specs.Lows.{lows}
use Rattle.laws.specs.Map.{get-map}
use Rattle.build_edges.specs.Packed.{word_in, labelled_in}
use Rattle.build_neighbours.specs.Useful.{reaches}
use Rattle.build_neighbours.specs.Left.{labels_in}
use Rattle.build_neighbours.proofs.side.keep_useful.Goals as goal

pub keep_front-requires-clause-tested : goal.keep_front-requires-clause-tested
keep_front-requires-clause-tested c = λ i x h called.
    let e : x ≡ get_or c.args.words.now i 0 % 65536 = search rules in
    let k = c.requires.1.0 i h in
    rw e (search rules)

pub returns : goal.returns
returns c =
    let a = c.args in
    let long = length-map a.words.now (λ w. w % 65536) in (
      c.keep_front.ensures.within,
      c.keep_front.ensures.kept (lows a.words.now) (reaches (word_in (set_of a.sides.joined.now)) (labelled_in a.sides.nodes.now) (labels_in a.left)) long
          (λ i r h called. let e : r ≡ get_or a.words.now i 0 % 65536 = search rules in e ∙ sym (get-map (λ w. w % 65536) a.words.now i 0 0 (omega (arith, long))))
          (λ i x r h called tested. search rules),
    )
