-- What the match rule says of a row, part by part. Assumes nothing.
use Rattle.std.proofs.Common.{arith}
use Rattle.std.specs.Prelude.{◌≡◌, Bool, ◌&&◌, ◌||◌, List, ℕ, length}
use Rattle.std.proofs.Math.Path.{refl}
use Rattle.std.proofs.Math.Bool.{true, false}
use Rattle.std.proofs.Math.Dec.{ltb, eqb}
use borrow.Author.Tests.{eqb-true, eq-eqb, ltb-true, lt-ltb}
use Rattle.rules.specs.Lists.{all_from}
use Rattle.rules.specs.Graph.{Graph, neighbours}
use Rattle.rules.specs.Pattern.{size_of, edges_of, pattern_label, meets_both, pattern_from, pattern_to, pattern_edge, joined}
use Rattle.rules.specs.Match.{image, suits, alone, is_match}
use Rattle.laws.specs.Cases.{first-holds, second-holds, or-left}
use Rattle.laws.specs.Each.{all-each, any-some, each-all}
use Rattle.demands.specs.Matched.{Suited, tested, Tested, Matched}

-- ---- a node that suits
module _ (g : Graph) (b : List ℕ) (u v : ℕ) where
  pub suits-says : suits g b u v ≡ true → Suited g b u v
  unfolding suits
  suits-says h =
      let inside = ltb v g.size in
      let named = eqb (g.label v) (pattern_label b u) in
      let front = first-holds (inside && named) (meets_both b u (g.value v)) h in
      record {
        node = ltb-true v g.size (first-holds inside named front);
        label = eqb-true (g.label v) (pattern_label b u) (second-holds inside named front);
        meet = second-holds (inside && named) (meets_both b u (g.value v)) h;
      }

  pub says-suits : Suited g b u v → suits g b u v ≡ true
  unfolding suits
  says-suits s = rw (lt-ltb v g.size s.node, eq-eqb (g.label v) (pattern_label b u) s.label) s.meet

-- ---- the parts of the rule, for any test of a node's image and of the images of an edge's ends
module _ (may : ℕ → ℕ → Bool) (has : ℕ → ℕ → ℕ → Bool) (b row : List ℕ) where
  abbrev long : Bool
  long = eqb (length row) (size_of b)

  abbrev noded : Bool
  noded = all_from (λ u. may u (image row u)) 0 (size_of b)

  abbrev owned : Bool
  owned = all_from (alone row) 0 (size_of b)

  abbrev edged : Bool
  edged = all_from (λ j. has j (image row (pattern_from b j)) (image row (pattern_to b j))) 0 (edges_of b)

  pub tested-says : tested may has b row ≡ true → Tested may has b row
  tested-says h =
      let three : (long && noded && owned) ≡ true = first-holds (long && noded && owned) edged h in
      let two : (long && noded) ≡ true = first-holds (long && noded) owned three in
      record {
        size = eqb-true (length row) (size_of b) (first-holds long noded two);
        node = λ u l. all-each (λ u. may u (image row u)) 0 (size_of b) (second-holds long noded two) u (omega arith) (omega arith);
        own = λ u l. all-each (alone row) 0 (size_of b) (second-holds (long && noded) owned three) u (omega arith) (omega arith);
        edge = λ j l. all-each (λ j. has j (image row (pattern_from b j)) (image row (pattern_to b j))) 0 (edges_of b)
            (second-holds (long && noded && owned) edged h) j (omega arith) (omega arith);
      }

  pub says-tested : Tested may has b row → tested may has b row ≡ true
  says-tested m =
      let a : long ≡ true = eq-eqb (length row) (size_of b) m.size in
      let c : noded ≡ true = each-all (λ u. may u (image row u)) 0 (size_of b) (λ u k l. m.node u (omega arith)) in
      let d : owned ≡ true = each-all (alone row) 0 (size_of b) (λ u k l. m.own u (omega arith)) in
      let e : edged ≡ true =
      each-all (λ j. has j (image row (pattern_from b j)) (image row (pattern_to b j))) 0 (edges_of b) (λ j k l. m.edge j (omega arith)) in
      rw (a, c, d, e)

-- ---- a match
module _ (g : Graph) (b row : List ℕ) where
  pub match-says : is_match g b row ≡ true → Matched g b row
  unfolding is_match
  match-says h = tested-says (suits g b) (λ j. g.edge) b row h

  pub says-match : Matched g b row → is_match g b row ≡ true
  unfolding is_match
  says-match m = says-tested (suits g b) (λ j. g.edge) b row m

  -- a pattern edge is an edge between the images
  edge-image : Matched g b row → (x y : ℕ) → pattern_edge b x y ≡ true → g.edge (image row x) (image row y) ≡ true
  unfolding pattern_edge
  edge-image m x y h =
      let s = any-some (λ j. eqb (pattern_from b j) x && eqb (pattern_to b j) y) 0 (edges_of b) h in
      let j = s.at in
      let e = eqb-true (pattern_from b j) x (first-holds (eqb (pattern_from b j) x) (eqb (pattern_to b j) y) s.holds) in
      let f = eqb-true (pattern_to b j) y (second-holds (eqb (pattern_from b j) x) (eqb (pattern_to b j) y) s.holds) in
      rw (e, f) at (m.edge j (omega arith))

  -- so the images of joined nodes are neighbours
  pub joined-image : Matched g b row → (x y : ℕ) → joined b x y ≡ true → neighbours g (image row x) (image row y) ≡ true
  unfolding joined neighbours
  joined-image m x y h = go (pattern_edge b x y) refl
    where
      either : (s t : Bool) → t ≡ true → (s || t) ≡ true
      either true t e = refl
      either false t e = e

      go : (t : Bool) → pattern_edge b x y ≡ t → (g.edge (image row x) (image row y) || g.edge (image row y) (image row x)) ≡ true
      go true e = or-left (g.edge (image row x) (image row y)) (g.edge (image row y) (image row x)) (edge-image m x y e)
      go false e = either (g.edge (image row x) (image row y)) (g.edge (image row y) (image row x)) (edge-image m y x (rw e at h))
