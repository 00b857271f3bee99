-- Laws of a pass: the labels of a constraint and its nodes. Assumes nothing.
use native.Mathlib.Omega.{arith}
use mathlib.Core.Bool.{Bool, true, false, cond}
use mathlib.Core.List.{List, [], ◌∷◌}
use Prim.Native.Nat.{ℕ, ◌≤◌}
use lib.Dec.{eqb}
use lib.ListN.{length}
use Rattle.rules.specs.Lists.{range}
use Rattle.rules.specs.Store.{nodes_in}
use Rattle.laws.specs.Keep.{keep-most}
use Rattle.build_edges.specs.Packed.{has_label, labelled_in}
use Rattle.build_neighbours.specs.Left.{labels_left}
use Rattle.laws.specs.Range.{length-range}

pub labels-few : (a b c : ℕ) → length (labels_left a b c) ≤ 3
unfolding labels_left
labels-few a b c = go (eqb a 0) (eqb b 0) (eqb c 0)
  where
    go : (x y z : Bool) → length (cond x [] (a ∷ cond y [] (b ∷ cond z [] (c ∷ [])))) ≤ 3
    go true y z = omega arith
    go false true z = omega arith
    go false false true = omega arith
    go false false false = omega arith

pub labelled-few : (nodes : List ℕ) (l : ℕ) → length (labelled_in nodes l) ≤ nodes_in nodes
unfolding labelled_in
labelled-few nodes l = let h = keep-most (has_label nodes l) (range 0 (nodes_in nodes)) in omega (arith, length-range 0 (nodes_in nodes))
