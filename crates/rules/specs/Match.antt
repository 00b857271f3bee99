-- The match rule, over a graph and a pattern alone: no plan, candidate or list is in it.
use Rattle.std.specs.Prelude.{ℕ, Bool, not, ◌&&◌, ltb, eqb, length, get_or}
use Rattle.rules.specs.Words.{Bytes, Ids}
use Rattle.rules.specs.Lists.{all_from}
use Rattle.rules.specs.Graph.{Graph}
use Rattle.rules.specs.Pattern.{size_of, edges_of, pattern_label, meets_both, pattern_from, pattern_to}

-- the graph node that a row gives to pattern node u
abbrev pub image : Ids → ℕ → ℕ
image row u = get_or row u 0

-- graph node v may stand for pattern node u: it is a node, label equal, conditions met
unfoldable pub suits : Graph → Bytes → ℕ → ℕ → Bool
suits g b u v = ltb v g.size && eqb (g.label v) (pattern_label b u) && meets_both b u (g.value v)

-- pattern node u stands on no graph node that an earlier one stands on
unfoldable pub alone : Ids → ℕ → Bool
alone row u = all_from (λ w. not (eqb (image row w) (image row u))) 0 u

-- a row is a match: a graph node of its own for each pattern node, and for each pattern edge an edge that way round
unfoldable pub is_match : Graph → Bytes → Ids → Bool
is_match g b row =
    eqb (length row) (size_of b) && all_from (λ u. suits g b u (image row u)) 0 (size_of b)
    && all_from (alone row) 0 (size_of b)
    && all_from (λ j. g.edge (image row (pattern_from b j)) (image row (pattern_to b j))) 0 (edges_of b)
