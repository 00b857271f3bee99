-- The list of a key in a graph: its members, its order, and the directions of its entries. Assumes nothing.
use Rattle.std.specs.Prelude.{◌≡◌, refl, Bool, true, false, cond, not, ◌&&◌, ltb, eqb, length}
use Rattle.std.proofs.Common.{sym, ◌∙◌, div-one, pow-suc, eq-eqb, ne_eqb, eqb-true, lt-ltb, ltb-true}
use Rattle.std.proofs.Math.Path.{ap}
use Rattle.std.proofs.Math.Bool.{and_comm}
use mathlib.Core.List.{List, [], ◌∷◌}
use Prim.Native.Nat.{ℕ, zero, suc, ◌+◌, ◌*◌, ◌/◌, ◌%◌, ◌^◌, ◌≤◌, ◌<◌}
use Rattle.std.proofs.Math.Nat.{div-div-eq-div-mul, pow-succ'}
use native.Mathlib.Omega.{arith}
use Rattle.std.proofs.Math.ListN.{get_or}
use Rattle.rules.specs.Lists.{range, all, has}
use Rattle.laws.specs.Strict.{Strict}
use Rattle.rules.specs.Graph.{Graph, neighbours, labelled}
use Rattle.rules.specs.Index.{list_of, directions_of}
use Rattle.rules.specs.Listing.{bits_for, bit_set}
use Rattle.rules.specs.declared.Constraint.{Constraint}
use Rattle.rules.specs.Store.{labels_of}
use Rattle.laws.specs.Cases.{first-holds, second-holds, and-yes}
use Rattle.laws.specs.Keep.{has-keep, keep-from, keep-most}
use Rattle.laws.specs.Range.{range-from, has-range}

-- ---- the nodes labelled l
pub labelled-has : (g : Graph) (l v : ℕ) → has v (labelled g l) ≡ (ltb v g.size && eqb (g.label v) l)
unfolding labelled
labelled-has g l v =
    let z : 0 + g.size ≡ g.size = omega arith in
    has-keep (λ v. eqb (g.label v) l) v (range 0 g.size)
    ∙ and_comm (eqb (g.label v) l) (has v (range 0 g.size))
    ∙ ap (λ t. t && eqb (g.label v) l) (has-range v 0 g.size (omega arith) ∙ ap (ltb v) z)

pub labelled-strict : (g : Graph) (l : ℕ) → Strict (labelled g l)
unfolding labelled
labelled-strict g l = keep-from (λ v. eqb (g.label v) l) 0 (range 0 g.size) (range-from 0 g.size)

-- ---- keys
-- the ids are a key of the constraint: for each label of S a node with this label, in S's order
pub record IsKey (g : Graph) (d : Constraint) (ids : List ℕ) : Type 0 where
  pub size : length ids ≡ length (labels_of d)
  pub nodes : (j : ℕ) → j < length ids → get_or ids j 0 < g.size
  pub labels : (j : ℕ) → j < length ids → g.label (get_or ids j 0) ≡ get_or (labels_of d) j 0

-- a key has at most three ids
pub labels-few : (d : Constraint) → length (labels_of d) ≤ 3
unfolding labels_of
labels-few d = keep-most (λ l. not (eqb l 0)) (d.first ∷ d.second ∷ d.third ∷ [])

-- ---- the list of a key
module _ (g : Graph) (d : Constraint) (ids : List ℕ) where
  -- a node is in the list exactly if it neighbours all ids and is labelled l
  pub list-has : (v : ℕ) → has v (list_of g d ids) ≡ (all (neighbours g v) ids && (ltb v g.size && eqb (g.label v) d.label))
  unfolding list_of
  list-has v =
      has-keep (λ v. all (neighbours g v) ids) v (labelled g d.label)
      ∙ ap (λ t. all (neighbours g v) ids && t) (labelled-has g d.label v)

  -- each node stands once in it, ascending
  pub list-strict : Strict (list_of g d ids)
  unfolding list_of
  list-strict = keep-from (λ v. all (neighbours g v) ids) 0 (labelled g d.label) (labelled-strict g d.label)

  -- what a node of the list is
  pub record InList (v : ℕ) : Type 0 where
    pub node : v < g.size
    pub label : g.label v ≡ d.label
    pub joined : all (neighbours g v) ids ≡ true

  pub in-list : (v : ℕ) → has v (list_of g d ids) ≡ true → InList v
  in-list v h =
      let near = all (neighbours g v) ids in
      let small = ltb v g.size in
      let same = eqb (g.label v) d.label in
      let all_three : (near && (small && same)) ≡ true = sym (list-has v) ∙ h in
      let two : (small && same) ≡ true = second-holds near (small && same) all_three in
      record {
        node = ltb-true _ _ (first-holds small same two);
        label = eqb-true _ _ (second-holds small same two);
        joined = first-holds near (small && same) all_three;
      }

  pub list-in : (v : ℕ) → InList v → has v (list_of g d ids) ≡ true
  list-in v x = list-has v ∙ and-yes _ _ x.joined (and-yes _ _ (lt-ltb _ _ x.node) (eq-eqb _ _ x.label))

-- ---- the directions of an entry
two-four : (j : ℕ) → 2 ^ (2 * j) ≡ 4 ^ j
two-four zero = refl
two-four (suc j) =
    let e : 2 * suc j ≡ suc (suc (2 * j)) = omega arith in
    rw (e, pow-suc 2 (suc (2 * j)), pow-suc 2 (2 * j), pow-suc 4 j, two-four j) (omega arith)

four-half : (j : ℕ) → 2 ^ (2 * j + 1) ≡ 4 ^ j * 2
four-half j =
    let e : 2 * j + 1 ≡ suc (2 * j) = omega arith in
    rw (e, pow-suc 2 (2 * j), two-four j)

module _ (g : Graph) (v : ℕ) where
  -- the two bits of one id, as a number
  abbrev bits_of : ℕ → ℕ
  bits_of u = cond (g.edge u v) 1 0 + cond (g.edge v u) 2 0

  bits-small : (u : ℕ) → bits_of u < 4
  bits-small u = go (g.edge u v) (g.edge v u)
    where
      go : (a b : Bool) → cond a 1 0 + cond b 2 0 < 4
      go true true = omega arith
      go true false = omega arith
      go false true = omega arith
      go false false = omega arith

  first-place : (u : ℕ) (ids : List ℕ) → directions_of g (u ∷ ids) v % 4 ≡ bits_of u
  unfolding directions_of
  first-place u ids = let h = bits-small u in omega arith

  other-places : (u : ℕ) (ids : List ℕ) → directions_of g (u ∷ ids) v / 4 ≡ directions_of g ids v
  unfolding directions_of
  other-places u ids = let h = bits-small u in omega arith

  -- the bits of the id at j
  pub bits-at : (ids : List ℕ) (j : ℕ) → j < length ids → bits_for (directions_of g ids v) j ≡ bits_of (get_or ids j 0)
  bits-at [] j h = absurd (omega arith)
  bits-at (u ∷ ids) zero h = rw div-one (first-place u ids)
  bits-at (u ∷ ids) (suc j) h =
      rw (pow-succ' 4 j, ← div-div-eq-div-mul (directions_of g (u ∷ ids) v) 4 (4 ^ j), other-places u ids) (bits-at ids j (omega arith))

  -- no bit beyond the key is set
  pub bits-end : (ids : List ℕ) → directions_of g ids v < 4 ^ length ids
  unfolding directions_of
  bits-end [] = omega arith
  bits-end (u ∷ ids) = let h = bits-small u in let k = bits-end ids in rw (pow-suc 4 (length ids)) (omega arith)

  -- bit 2j is an edge from the id at j to the entry
  pub bit-from : (ids : List ℕ) (j : ℕ) → j < length ids → bit_set (directions_of g ids v) (2 * j) ≡ g.edge (get_or ids j 0) v
  unfolding bit_set
  bit-from ids j h = rw (two-four j) (go (g.edge u v) (g.edge v u) (bits-at ids j h))
    where
      u : ℕ
      u = get_or ids j 0

      d : ℕ
      d = directions_of g ids v / 4 ^ j

      go : (a b : Bool) → d % 4 ≡ cond a 1 0 + cond b 2 0 → eqb (d % 2) 1 ≡ a
      go true true e = eq-eqb (d % 2) 1 (omega arith)
      go true false e = eq-eqb (d % 2) 1 (omega arith)
      go false true e = ne_eqb (d % 2) 1 (λ q. omega arith)
      go false false e = ne_eqb (d % 2) 1 (λ q. omega arith)

  -- bit 2j + 1 is an edge from the entry to the id at j
  pub bit-to : (ids : List ℕ) (j : ℕ) → j < length ids → bit_set (directions_of g ids v) (2 * j + 1) ≡ g.edge v (get_or ids j 0)
  unfolding bit_set
  bit-to ids j h = rw (four-half j, ← div-div-eq-div-mul (directions_of g ids v) (4 ^ j) 2) (go (g.edge u v) (g.edge v u) (bits-at ids j h))
    where
      u : ℕ
      u = get_or ids j 0

      d : ℕ
      d = directions_of g ids v / 4 ^ j

      go : (a b : Bool) → d % 4 ≡ cond a 1 0 + cond b 2 0 → eqb (d / 2 % 2) 1 ≡ b
      go true true e = eq-eqb (d / 2 % 2) 1 (omega arith)
      go true false e = ne_eqb (d / 2 % 2) 1 (λ q. omega arith)
      go false true e = eq-eqb (d / 2 % 2) 1 (omega arith)
      go false false e = ne_eqb (d / 2 % 2) 1 (λ q. omega arith)
