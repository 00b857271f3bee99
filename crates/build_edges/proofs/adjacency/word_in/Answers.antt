use Rattle.std.proofs.Common.{◌∙◌}
use Rattle.build_edges.proofs.Edges.{no-word, the-word}
use Rattle.build_edges.proofs.adjacency.word_in.Goals as goal

pub returns-in_default : goal.returns-in_default
returns-in_default c = no-word _ _ _ c.in_default.ensures

pub returns : goal.returns
returns c = c.has_word.ensures.0 ∙ the-word _ _ _ c.in-Some.ensures
