-- Words that say which nodes are to be tried for a list, and which part of the list each is joined with.
use Rattle.std.specs.Prelude.{ℕ, ◌+◌, ◌*◌, ◌/◌, ◌%◌, ◌≡◌, cond, true, List, [], ◌∷◌, eqb}
use Rattle.rules.specs.Lists.{keep, has}
use Rattle.laws.specs.Strict.{Strict}
use Rattle.build_edges.specs.Packed.{word_in, labelled_in}
use Rattle.build_edges.specs.Near.{words_of}
use Rattle.laws.specs.Lows.{lows}

-- a word the other way round
unfoldable pub turned : ℕ → ℕ
turned w = w % 65536 * 65536 + w / 65536

-- a node as a word that names no node of the list
unfoldable pub marked : ℕ → ℕ
marked u = u * 65536 + 65535

-- the part of a list that is joined with u, as its words tell it: by their low halves, or by asking
unfoldable pub part_told : List ℕ → List ℕ → ℕ → List ℕ → List ℕ
part_told joined list u [] = []
part_told joined list u (w ∷ words) = cond (eqb (w % 65536) 65535) (keep (word_in joined u) list) (lows (w ∷ words))

-- ascending words, with nodes labelled l in their high halves, that tell for each such node its part of the list
pub record Paired (nodes joined : List ℕ) (l : ℕ) (list words : List ℕ) : Type 0 where
  pub ascends : Strict words
  pub from : (w : ℕ) → has w words ≡ true → has (w / 65536) (labelled_in nodes l) ≡ true
  pub each : (u : ℕ) → has u (labelled_in nodes l) ≡ true → part_told joined list u (words_of words u) ≡ keep (word_in joined u) list
