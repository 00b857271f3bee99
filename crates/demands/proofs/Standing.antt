-- The rows over candidates and pairs are, strictly ascending, exactly those whose images are candidates, differ, and have a pair for each pattern edge. Assumes nothing.
use native.Mathlib.Omega.{arith}
use Rattle.std.proofs.Math.Decide.{dec_le, ℕ_discrete}
use Rattle.std.proofs.Common.{zero-add, ◌∙◌, get_or-set_same, get_or-set_other, length-take-le}
use Rattle.std.specs.Prelude.{◌≡◌, Bool, cond, ◌&&◌, ◌||◌, ℕ, zero, suc, ◌≤◌, ◌<◌, eqb, get_or, take, set, replicate}
use Rattle.std.proofs.Math.Path.{refl, sym, ap}
use Rattle.std.proofs.Math.Bool.{true, false, not, true≢false}
use mathlib.Core.List.{List, [], ◌∷◌}
use Rattle.std.proofs.Math.Option.{Option, some, none}
use Rattle.std.proofs.Math.Dec.{ltb}
use Rattle.std.proofs.Math.ListN.{length}
use Rattle.std.proofs.Math.Seq.{get_or-take, set_out}
use borrow.Author.Tests.{eqb-true, eqb-false, eq-eqb, ne_eqb, ltb-true, lt-ltb, not-true}
use Rattle.rules.specs.Lists.{all_from, has}
use Rattle.rules.specs.Pattern.{size_of, edges_of, pattern_from, pattern_to}
use Rattle.rules.specs.Match.{image, alone}
use Rattle.rules.specs.Listing.{Reader, Read, Gathered, read_keys, nothing, keys_from, candidates_of, with_node, with_edge, with_row, with_rows, edge_agrees, allowed, matches_from, has_pair, matches_of}
use Rattle.rules.specs.declared.Row.{Row}
use Rattle.laws.specs.Cases.{first-holds, second-holds, and-yes, both-ways}
use Rattle.laws.specs.Each.{all-each, each-all}
use Rattle.laws.specs.PatternLaws.{RightPattern, RightEdge, edge-says}
use Rattle.laws.specs.Has.{has-at, has-get}
use Rattle.laws.specs.Strict.{From, Strict}
use Rattle.laws.specs.Sets.{set-strict}
use Rattle.demands.specs.Matched.{tested, Tested}
use Rattle.demands.proofs.Matched.{tested-says, says-tested}
use Rattle.demands.specs.Gathers.{candidates_at}
use Rattle.demands.specs.Exactly.{among, ascending, is_row}
use Rattle.demands.specs.Among.{StandsFrom}
use Rattle.demands.proofs.Among.{among-stands, stands-among, matches-ascend}
use Rattle.demands.specs.Standing.{StrictAll, StrictIn}

-- ---- a node on none that an earlier one stands on
module _ (row : List ℕ) (u : ℕ) (l : u < length row) where
  size-before : length (take u row) ≡ u
  size-before = length-take-le u row (omega arith)

  not-alone : has (image row u) (take u row) ≡ false → alone row u ≡ true
  unfolding alone
  not-alone h = each-all (λ w. not (eqb (image row w) (image row u))) 0 u (λ w a k. ap not (ne_eqb (image row w) (image row u) (apart w (omega arith))))
    where
      apart : (w : ℕ) → w < u → image row w ≡ image row u → ⊥
      apart w k e =
          let member : has (get_or (take u row) w 0) (take u row) ≡ true = has-get (take u row) w (omega (arith, size-before)) in
          true≢false (sym (rw (get_or-take u row w 0 k, e) at member) ∙ h)

  alone-not : alone row u ≡ true → has (image row u) (take u row) ≡ false
  unfolding alone
  alone-not h = go (has (image row u) (take u row)) refl
    where
      go : (t : Bool) → has (image row u) (take u row) ≡ t → t ≡ false
      go true e =
          let s = has-at (image row u) (take u row) e in
          let w = s.place in
          let k : w < u = omega (arith, s.below, size-before) in
          let is : image row w ≡ image row u = sym (get_or-take u row w 0 k) ∙ s.is in
          let test = all-each (λ w. not (eqb (image row w) (image row u))) 0 u h w (omega arith) (omega arith) in
          absurd (eqb-false (image row w) (image row u) (not-true (eqb (image row w) (image row u)) test) is)
      go false e = refl

-- ---- the edges to earlier nodes
module _ (b : List ℕ) (p : ℕ → ℕ → ℕ → Bool) (row : List ℕ) (u j : ℕ) (l : u < length row) where
  size-at : length (take u row) ≡ u
  size-at = length-take-le u row (omega arith)

  -- what agreeing says of an edge from u, and of an edge to u
  agrees-from : edge_agrees b p (take u row) (image row u) j ≡ true → pattern_from b j ≡ u → pattern_to b j < u → p j (image row u) (image row (pattern_to b j)) ≡ true
  unfolding edge_agrees
  agrees-from h e k =
      let first : (not (eqb (pattern_from b j) (length (take u row)) && ltb (pattern_to b j) (length (take u row))) || p j (image row u) (get_or (take u row) (pattern_to b j) 0)) ≡ true =
      first-holds _ (not (eqb (pattern_to b j) (length (take u row)) && ltb (pattern_from b j) (length (take u row))) || p j (get_or (take u row) (pattern_from b j) 0) (image row u)) h in
      rw (size-at, eq-eqb (pattern_from b j) u e, lt-ltb (pattern_to b j) u k, get_or-take u row (pattern_to b j) 0 k) at first

  agrees-to : edge_agrees b p (take u row) (image row u) j ≡ true → pattern_to b j ≡ u → pattern_from b j < u → p j (image row (pattern_from b j)) (image row u) ≡ true
  unfolding edge_agrees
  agrees-to h e k =
      let second : (not (eqb (pattern_to b j) (length (take u row)) && ltb (pattern_from b j) (length (take u row))) || p j (get_or (take u row) (pattern_from b j) 0) (image row u)) ≡ true =
      second-holds (not (eqb (pattern_from b j) (length (take u row)) && ltb (pattern_to b j) (length (take u row))) || p j (image row u) (get_or (take u row) (pattern_to b j) 0)) _ h in
      rw (size-at, eq-eqb (pattern_to b j) u e, lt-ltb (pattern_from b j) u k, get_or-take u row (pattern_from b j) 0 k) at second

  -- where the images of the edge's ends have a pair, it agrees
  pair-agrees : p j (image row (pattern_from b j)) (image row (pattern_to b j)) ≡ true → edge_agrees b p (take u row) (image row u) j ≡ true
  unfolding edge_agrees
  pair-agrees h =
      and-yes _ _
      (when (eqb (pattern_from b j) (length (take u row))) (ltb (pattern_to b j) (length (take u row))) (p j (image row u) (get_or (take u row) (pattern_to b j) 0))
      (λ a k.
      let e : pattern_from b j ≡ u = eqb-true (pattern_from b j) (length (take u row)) a ∙ size-at in
      let below : pattern_to b j < u = omega (arith, size-at, ltb-true (pattern_to b j) (length (take u row)) k) in
      rw (get_or-take u row (pattern_to b j) 0 below) (rw e at h)))
      (when (eqb (pattern_to b j) (length (take u row))) (ltb (pattern_from b j) (length (take u row))) (p j (get_or (take u row) (pattern_from b j) 0) (image row u))
      (λ a k.
      let e : pattern_to b j ≡ u = eqb-true (pattern_to b j) (length (take u row)) a ∙ size-at in
      let below : pattern_from b j < u = omega (arith, size-at, ltb-true (pattern_from b j) (length (take u row)) k) in
      rw (get_or-take u row (pattern_from b j) 0 below) (rw e at h)))
    where
      when : (a k t : Bool) → (a ≡ true → k ≡ true → t ≡ true) → (not (a && k) || t) ≡ true
      when true true t f = f refl refl
      when true false t f = refl
      when false k t f = refl

-- ---- the two readings of a row
module _ {b : List ℕ} (right : RightPattern b) (c : ℕ → List ℕ) (p : ℕ → ℕ → ℕ → Bool) where
  abbrev chosen : ℕ → ℕ → Bool
  chosen u v = has v (c u)

  -- a row that stands passes the tests
  stands-tested : (row : List ℕ) → length row ≡ size_of b → StandsFrom b c p row 0 → Tested chosen p b row
  unfolding allowed
  stands-tested row size at =
      record {
        size = size;
        node = λ u l. (at u (omega arith) (omega arith)).0;
        own = λ u l.
            let k : u < length row = omega arith in
            not-alone row u k (not-true (has (image row u) (take u row)) (first-holds (not (has (image row u) (take u row))) _ (at u (omega arith) k).1));
        edge = pair;
      }
    where
      agree : (u j : ℕ) → u < length row → j < edges_of b → edge_agrees b p (take u row) (image row u) j ≡ true
      agree u j k l =
          all-each (edge_agrees b p (take u row) (image row u)) 0 (edges_of b)
          (second-holds (not (has (image row u) (take u row))) (all_from (edge_agrees b p (take u row) (image row u)) 0 (edges_of b)) (at u (omega arith) k).1) j (omega arith) (omega arith)

      pair : (j : ℕ) → j < edges_of b → p j (image row (pattern_from b j)) (image row (pattern_to b j)) ≡ true
      pair j l = go (dec_le (pattern_from b j) (pattern_to b j))
        where
          says : RightEdge b j
          says = edge-says right j l

          go : Dec (pattern_from b j ≤ pattern_to b j) → p j (image row (pattern_from b j)) (image row (pattern_to b j)) ≡ true
          go (yes h) =
              let k : pattern_to b j < length row = omega (arith, says.to) in
              let n : pattern_from b j < pattern_to b j = less (pattern_from b j) (pattern_to b j) h says.apart in
              agrees-to b p row (pattern_to b j) j k (agree (pattern_to b j) j k l) refl n
            where
              less : (x y : ℕ) → x ≤ y → (x ≡ y → ⊥) → x < y
              less x y a d = omega arith
          go (no h) =
              let k : pattern_from b j < length row = omega (arith, says.from) in
              agrees-from b p row (pattern_from b j) j k (agree (pattern_from b j) j k l) refl (omega arith)

  -- a row that passes them stands
  tested-stands : (row : List ℕ) → Tested chosen p b row → StandsFrom b c p row 0
  unfolding allowed
  tested-stands row says u low l =
      let k : u < size_of b = omega (arith, says.size) in
      let free : not (has (image row u) (take u row)) ≡ true = ap not (alone-not row u l (says.own u k)) in (
        says.node u k,
        and-yes _ _ free
            (each-all (edge_agrees b p (take u row) (image row u)) 0 (edges_of b) (λ j a d. pair-agrees b p row u j l (says.edge j (omega arith)))),
      )

  -- so a row is among them exactly if it passes the tests
  pub among-tested : (row : List ℕ) → among row (matches_from b c p (size_of b) []) ≡ tested chosen p b row
  among-tested row = both-ways (among row (matches_from b c p (size_of b) [])) (tested chosen p b row) sound all-of
    where
      sound : among row (matches_from b c p (size_of b) []) ≡ true → tested chosen p b row ≡ true
      sound h =
          let s = among-stands b c p (size_of b) [] row h in
          says-tested chosen p b row (stands-tested row (s.size ∙ zero-add (size_of b)) s.at)

      all-of : tested chosen p b row ≡ true → among row (matches_from b c p (size_of b) []) ≡ true
      all-of h =
          let says = tested-says chosen p b row h in
          stands-among b c p row (size_of b) 0 (zero-add (size_of b) ∙ sym says.size) (tested-stands row says)

-- ---- over what has been gathered
module _ (b : List ℕ) (got : Gathered) where
  abbrev among-candidates : ℕ → ℕ → Bool
  among-candidates u v = has v (candidates_at got u)

  module _ (row : List ℕ) where
    pub row-says : is_row b got row ≡ true → Tested among-candidates (has_pair got) b row
    unfolding is_row
    row-says h = tested-says among-candidates (has_pair got) b row h

    pub says-row : Tested among-candidates (has_pair got) b row → is_row b got row ≡ true
    unfolding is_row
    says-row m = says-tested among-candidates (has_pair got) b row m

  -- they ascend where candidates do
  pub rows-ordered : ((u : ℕ) → u < size_of b → Strict (candidates_at got u)) → ascending (matches_of b got) ≡ true
  unfolding matches_of
  rows-ordered strict = matches-ascend b (candidates_at got) (has_pair got) (size_of b) [] (λ u l. strict u (omega arith))

pub rows-over : {b : List ℕ} → RightPattern b → (got : Gathered) (row : List ℕ) → among row (matches_of b got) ≡ is_row b got row
unfolding matches_of is_row
rows-over right got row = among-tested right (candidates_at got) (has_pair got) row

-- ---- candidates ascend, whatever is read
set-all : (l : List (List ℕ)) (i : ℕ) (x : List ℕ) → ((u : ℕ) → Strict (get_or l u [])) → Strict x → (u : ℕ) → Strict (get_or (set l i x) u [])
set-all l i x each new u = go (ℕ_discrete u i) (dec_le (length l) i)
  where
    go : Dec (u ≡ i) → Dec (length l ≤ i) → Strict (get_or (set l i x) u [])
    go (no n) d = rw (get_or-set_other l i u x [] n) (each u)
    go (yes e) (no n) = rw (e, get_or-set_same l i x [] (omega arith)) new
    go (yes e) (yes k) = rw (set_out l i x k) (each u)

none-strict : (n u : ℕ) → Strict (get_or (replicate n []) u [])
none-strict zero u = unfold From in tt
none-strict (suc n) zero = unfold From in tt
none-strict (suc n) (suc u) = none-strict n u

module _ (r : Reader) (b : List ℕ) where
  row-strict : (got : Gathered) (row : Row) → StrictAll got → StrictIn (with_row r b got row)
  unfolding with_row with_node with_edge candidates_of StrictIn
  row-strict got row each = go (read_keys r row.constraint (keys_from got row))
    where
      after : (reads : List Read) (t : Bool) → StrictAll (cond t (with_node r b got row reads) (with_edge b got row reads))
      after reads true = set-all got.candidates row.fetched _ each (set-strict _)
      after reads false = each

      go : (o : Option (List Read)) → StrictIn (elim o [ none ↦ none | some reads ↦ some (cond (eqb row.kind 0) (with_node r b got row reads) (with_edge b got row reads)) ])
      go none = tt
      go (some reads) = after reads (eqb row.kind 0)

  rows-strict : (rows : List Row) (got : Gathered) → StrictAll got → StrictIn (with_rows r b rows got)
  unfolding with_rows StrictIn
  rows-strict [] got each = each
  rows-strict (row ∷ rows) got each = go (with_row r b got row) (row-strict got row each) (rows-strict rows)
    where
      go : (o : Option Gathered) → StrictIn o → ((next : Gathered) → StrictAll next → StrictIn (with_rows r b rows next)) → StrictIn (elim o [ none ↦ none | some next ↦ with_rows r b rows next ])
      go none k ih = tt
      go (some next) k ih = ih next k

  pub candidates-strict : (rows : List Row) (got : Gathered) → with_rows r b rows (nothing b) ≡ some got → (u : ℕ) → Strict (candidates_at got u)
  unfolding StrictIn nothing
  candidates-strict rows got e = rw e at (rows-strict rows (nothing b) (none-strict (size_of b)))
