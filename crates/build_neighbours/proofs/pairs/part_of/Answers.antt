use Rattle.std.proofs.Common.{rules, arith, sym, ◌∙◌, ◌%◌}
use Rattle.build_neighbours.proofs.Pairing.{told-none, told-asked, told-listed}
use Rattle.build_neighbours.proofs.Written.{made-first}
use Rattle.build_neighbours.proofs.pairs.part_of.Goals as goal

pub returns-then-words-eq0 : goal.returns-then-words-eq0
returns-then-words-eq0 c = (omega arith, told-none _ _ _ _ c.if-words-eq0.true)

pub returns-then-words-eq65535 : goal.returns-then-words-eq65535
returns-then-words-eq65535 c = (c.shared.ensures.0, c.shared.ensures.1 ∙ sym (told-asked _ _ _ _ c.if-words-eq0.false c.if-words-eq65535.true))

pub returns : goal.returns
returns c = (
  omega arith,
  made-first (λ w. w % 65536) c.args.words.now _ (omega arith) (λ k h. let q = c.map_into.ensures.made k h in search rules) ∙ sym (told-listed _ _ _ _ c.if-words-eq65535.false),
)
