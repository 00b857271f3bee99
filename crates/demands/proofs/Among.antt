-- Which rows are among the matches over candidates and pairs, and in which order they stand. Assumes nothing.
use native.Mathlib.Omega.{arith}
use Rattle.std.proofs.Math.Decide.{dec_le}
use Rattle.std.specs.Prelude.{◌≡◌, Bool, ◌&&◌, ◌||◌, ltb, get_or}
use Rattle.std.proofs.Math.Path.{refl, sym}
use Rattle.std.proofs.Common.{ap, ◌∙◌, take-take, take-suc, get_or-take, lt-ltb, eq-eqb}
use Rattle.std.proofs.Math.Bool.{true, false}
use mathlib.Core.List.{List, [], ◌∷◌, ◌++◌, append_assoc, append-nil, flat_map}
use Prim.Native.Nat.{ℕ, zero, suc, ◌+◌, ◌≤◌, ◌<◌}
use Rattle.std.proofs.Math.ListN.{length, take, length-append}
use Rattle.std.proofs.Math.Seq.{take_all, take-length, take-append_seam, length-take-le, get_or-append_seam}
use Rattle.rules.specs.Lists.{all, any, keep, has}
use Rattle.laws.specs.Strict.{From, Strict}
use Rattle.rules.specs.Match.{image}
use Rattle.rules.specs.Listing.{allowed, matches_from}
use Rattle.rules.specs.Answers.{same}
use Rattle.laws.specs.Cases.{first-holds, second-holds, and-yes}
use Rattle.laws.specs.All.{all-append}
use Rattle.laws.specs.Keep.{has-keep, keep-from}
use Rattle.laws.specs.Matches.{matches-next}
use Rattle.laws.specs.Same.{same-equal, equal-same}
use Rattle.laws.specs.Every.{Every, every-more, every-append, every-flat, every-member, any-passed, all-every}
use Rattle.laws.specs.Any.{any-flat, any-member}
use Rattle.demands.specs.Exactly.{among, before, ascending}
use Rattle.demands.specs.Among.{StandsFrom, Stands, Begins, Later}

-- ---- which rows
module _ (b : List ℕ) (c : ℕ → List ℕ) (p : ℕ → ℕ → ℕ → Bool) where
  -- one node less
  stands-more : (n : ℕ) (chosen row : List ℕ) (x : ℕ) → has x (c (length chosen)) ≡ true → allowed b p chosen x ≡ true → Stands b c p n (chosen ++ x ∷ []) row
      → Stands b c p (suc n) chosen row
  stands-more n chosen row x member may later =
      record { size = omega (arith, later.size, one); front = front; at = λ u k l. go u k l (dec_le u (length chosen)) }
    where
      one : length (chosen ++ x ∷ []) ≡ length chosen + 1
      one = length-append chosen (x ∷ [])

      seen : take (length chosen + 1) row ≡ chosen ++ x ∷ []
      seen = rw one at later.front

      front : take (length chosen) row ≡ chosen
      front =
          let h : length chosen ≤ length chosen + 1 = omega arith in
          sym (take-take (length chosen) (length chosen + 1) row h) ∙ ap (take (length chosen)) seen ∙ take-append_seam chosen (x ∷ [])

      is : image row (length chosen) ≡ x
      is =
          let h : length chosen < length chosen + 1 = omega arith in
          sym (get_or-take (length chosen + 1) row (length chosen) 0 h) ∙ ap (λ l. get_or l (length chosen) 0) seen ∙ get_or-append_seam chosen x [] 0

      go : (u : ℕ) → length chosen ≤ u → u < length row → Dec (u ≤ length chosen) → (has (image row u) (c u) ≡ true) × (allowed b p (take u row) (image row u) ≡ true)
      go u k l (yes h) =
          let e : u ≡ length chosen = omega arith in
          rw (e, is, front) (member, may)
      go u k l (no h) = later.at u (omega (arith, one)) l

  -- a row that is among them stands
  pub among-stands : (n : ℕ) (chosen row : List ℕ) → among row (matches_from b c p n chosen) ≡ true → Stands b c p n chosen row
  unfolding among
  among-stands zero chosen row h =
      let e : row ≡ chosen = same-equal row chosen (only (same row chosen) (unfold any matches_from in h)) in
      rw e record { size = omega arith; front = take-length chosen; at = λ u k l. absurd (omega arith) }
    where
      only : (t : Bool) → (t || false) ≡ true → t ≡ true
      only true k = refl
      only false k = k
  among-stands (suc n) chosen row h =
      let next = keep (allowed b p chosen) (c (length chosen)) in
      let found : any (λ x. any (same row) (matches_from b c p n (chosen ++ x ∷ []))) next ≡ true =
      sym (any-flat (same row) (λ x. matches_from b c p n (chosen ++ x ∷ [])) next) ∙ rw (matches-next b c p n chosen) at h in
      let x = any-passed (λ x. has x next ≡ true) (λ x. any (same row) (matches_from b c p n (chosen ++ x ∷ []))) next (every-member (λ x. has x next ≡ true) next (λ x k. k)) found in
      let v = x.one in
      let both : (allowed b p chosen v && has v (c (length chosen))) ≡ true = sym (has-keep (allowed b p chosen) v (c (length chosen))) ∙ x.holds in
      stands-more n chosen row v (second-holds (allowed b p chosen v) (has v (c (length chosen))) both) (first-holds (allowed b p chosen v) (has v (c (length chosen))) both)
      (among-stands n (chosen ++ v ∷ []) row x.passes)

  -- a row that stands is among them
  pub stands-among : (row : List ℕ) (n k : ℕ) → k + n ≡ length row → StandsFrom b c p row k → among row (matches_from b c p n (take k row)) ≡ true
  unfolding among
  stands-among row zero k e at =
      let all_of : take k row ≡ row = take_all k row (omega arith) in
      rw all_of (unfold any matches_from in rw (equal-same row row refl))
  stands-among row (suc n) k e at =
      let l : k < length row = omega arith in
      let x = image row k in
      let size : length (take k row) ≡ k = length-take-le k row (omega arith) in
      let here = at k (omega arith) l in
      let member : has x (keep (allowed b p (take k row)) (c (length (take k row)))) ≡ true =
      has-keep (allowed b p (take k row)) x (c (length (take k row))) ∙ rw (size, here.0, here.1) in
      let more : take k row ++ x ∷ [] ≡ take (suc k) row = sym (take-suc row k 0 l) in
      rw (matches-next b c p n (take k row))
      (any-flat (same row) (λ x. matches_from b c p n (take k row ++ x ∷ [])) (keep (allowed b p (take k row)) (c (length (take k row))))
      ∙ any-member (λ x. any (same row) (matches_from b c p n (take k row ++ x ∷ []))) x (keep (allowed b p (take k row)) (c (length (take k row)))) member
      (rw more (stands-among row n (suc k) (omega arith) (λ u a d. at u (omega arith) d))))

-- ---- in which order
-- two runs of rows, each of the first before all of the second
ascending-append : (xs ys : List (List ℕ)) → ascending xs ≡ true → ascending ys ≡ true → Every (λ row. Every (λ q. before row q ≡ true) ys) xs → ascending (xs ++ ys) ≡ true
unfolding ascending Every
ascending-append [] ys h k o = k
ascending-append (row ∷ xs) ys h k o =
    let first = first-holds (all (before row) xs) (ascending xs) h in
    let later = second-holds (all (before row) xs) (ascending xs) h in
    and-yes (all (before row) (xs ++ ys)) (ascending (xs ++ ys)) (all-append (before row) xs ys ∙ rw (first, all-every (before row) ys o.0))
    (ascending-append xs ys later k o.1)

-- rows that part after the chosen stand by their next ids
parted : (chosen : List ℕ) (x y : ℕ) (r q : List ℕ) → x < y → before (chosen ++ x ∷ r) (chosen ++ y ∷ q) ≡ true
unfolding before
parted [] x y r q h = rw (lt-ltb x y h)
parted (z ∷ chosen) x y r q h = rw (eq-eqb z z refl, parted chosen x y r q h) (yes-or (ltb z z))
  where
    yes-or : (t : Bool) → (t || true) ≡ true
    yes-or true = refl
    yes-or false = refl

begins-before : (chosen : List ℕ) (x y : ℕ) (r q : List ℕ) → x < y → Begins (chosen ++ x ∷ []) r → Begins (chosen ++ y ∷ []) q → before r q ≡ true
begins-before chosen x y r q h s t = rw (s.is, t.is, append_assoc chosen (x ∷ []) s.rest, append_assoc chosen (y ∷ []) t.rest) (parted chosen x y s.rest t.rest h)

rows-later : (chosen : List ℕ) (f : ℕ → List (List ℕ)) → ((x : ℕ) → Every (Begins (chosen ++ x ∷ [])) (f x)) → (k : ℕ) (xs : List ℕ) → From k xs → Every (Later k chosen) (flat_map f xs)
unfolding flat_map From
rows-later chosen f each k [] s = unfold Every in tt
rows-later chosen f each k (x ∷ xs) s =
    let l = s.0 in
    every-append (Later k chosen) (f x) (flat_map f xs) (every-more (Begins (chosen ++ x ∷ [])) (Later k chosen) (λ row h. record { id = x; low = l; begins = h }) (f x) (each x))
    (every-more (Later (suc x) chosen) (Later k chosen) (λ row h. let m = h.low in record { id = h.id; low = omega arith; begins = h.begins }) (flat_map f xs) (rows-later chosen f each (suc x) xs s.1))

rows-ascend : (chosen : List ℕ) (f : ℕ → List (List ℕ)) → ((x : ℕ) → Every (Begins (chosen ++ x ∷ [])) (f x)) → ((x : ℕ) → ascending (f x) ≡ true)
    → (k : ℕ) (xs : List ℕ) → From k xs → ascending (flat_map f xs) ≡ true
unfolding flat_map From
rows-ascend chosen f each own k [] s = unfold ascending in refl
rows-ascend chosen f each own k (x ∷ xs) s =
    let later = rows-later chosen f each (suc x) xs s.1 in
    ascending-append (f x) (flat_map f xs) (own x) (rows-ascend chosen f each own (suc x) xs s.1)
    (every-more (Begins (chosen ++ x ∷ [])) (λ row. Every (λ q. before row q ≡ true) (flat_map f xs))
    (λ row h. every-more (Later (suc x) chosen) (λ q. before row q ≡ true) (λ q t. begins-before chosen x t.id row q t.low h t.begins) (flat_map f xs) later) (f x) (each x))

module _ (b : List ℕ) (c : ℕ → List ℕ) (p : ℕ → ℕ → ℕ → Bool) where
  -- every row begins with the chosen
  all-begin : (n : ℕ) (chosen : List ℕ) → Every (Begins chosen) (matches_from b c p n chosen)
  all-begin zero chosen = unfold matches_from Every in (record { rest = []; is = sym (append-nil chosen) }, tt)
  all-begin (suc n) chosen =
      rw (matches-next b c p n chosen)
      (every-flat (Begins chosen) (λ x. Unit {0}) (λ x. matches_from b c p n (chosen ++ x ∷ []))
      (λ x t. every-more (Begins (chosen ++ x ∷ [])) (Begins chosen) (λ row h. record { rest = x ∷ h.rest; is = h.is ∙ append_assoc chosen (x ∷ []) h.rest })
      (matches_from b c p n (chosen ++ x ∷ [])) (all-begin n (chosen ++ x ∷ [])))
      (keep (allowed b p chosen) (c (length chosen))) (every-member (λ x. Unit {0}) (keep (allowed b p chosen) (c (length chosen))) (λ x h. tt)))

  -- they ascend where candidates do
  pub matches-ascend : (n : ℕ) (chosen : List ℕ) → ((u : ℕ) → u < length chosen + n → Strict (c u)) → ascending (matches_from b c p n chosen) ≡ true
  matches-ascend zero chosen s = unfold matches_from ascending all in refl
  matches-ascend (suc n) chosen s =
      rw (matches-next b c p n chosen)
      (rows-ascend chosen (λ x. matches_from b c p n (chosen ++ x ∷ [])) (λ x. all-begin n (chosen ++ x ∷ []))
      (λ x. matches-ascend n (chosen ++ x ∷ []) (λ u l. s u (omega (arith, length-append chosen (x ∷ []))))) 0
      (keep (allowed b p chosen) (c (length chosen))) (keep-from (allowed b p chosen) 0 (c (length chosen)) (s (length chosen) (omega arith))))
