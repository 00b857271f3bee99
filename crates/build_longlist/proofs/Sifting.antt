-- Sifting the nodes to be tried: the state of `sift`'s loop with a law for each need, and what is left after sorting. Assumes nothing.
use native.Mathlib.Omega.{arith}
use native.Mathlib.Numerals.{add-one}
use native.Mathlib.Decide.{dec_le}
use mathlib.Core.Path.{◌≡◌, refl, sym, ap, ◌∙◌}
use mathlib.Core.Bool.{Bool, true, false, ◌||◌, or_assoc, or-false}
use mathlib.Core.List.{List, [], ◌∷◌, ◌++◌, map-append}
use Prim.Native.Nat.{ℕ, ◌+◌, ◌*◌, ◌%◌, ◌≤◌, ◌<◌}
use lib.ListN.{length, take, drop, get_or, set, length-set, length-take, drop_of_length-le}
use lib.Seq.{length-take-le, take-append-le, take_at, take-suc-set, drop-set-lt}
use borrow.Author.Tests.{le-leb, lt-leb, le-ltb}
use Rattle.rules.specs.Lists.{any, keep, insert, sort_of}
use Rattle.laws.specs.Any.{any-append}
use Rattle.laws.specs.Keep.{keep-yes, keep-no, keep-none}
use Rattle.laws.specs.Sets.{length-sort}
use Rattle.laws.specs.Slices.{drop-next}
use Rattle.laws.specs.Cases.{or-swap}
use Rattle.build_edges.specs.Packed.{word_in, labelled_in}
use Rattle.laws.specs.Lows.{lows}
use Rattle.build_edges.specs.Near.{Tried}
use Rattle.build_longlist.specs.Exceed.{Sifted}

-- ---- order does not matter
any-insert : (p : ℕ → Bool) (x : ℕ) (l : List ℕ) → any p (insert x l) ≡ (p x || any p l)
unfolding any insert
any-insert p x [] = refl
any-insert p x (y ∷ l) = go (dec_le x y) (any-insert p x l)
  where
    go : Dec (x ≤ y) → any p (insert x l) ≡ (p x || any p l) → any p (insert x (y ∷ l)) ≡ (p x || (p y || any p l))
    go (yes h) ih = rw (le-leb x y h)
    go (no h) ih = rw (lt-leb x y (omega arith)) (ap (λ t. p y || t) ih ∙ or-swap (p y) (p x) (any p l))

any-sort : (p : ℕ → Bool) (l : List ℕ) → any p (sort_of l) ≡ any p l
unfolding any sort_of
any-sort p [] = refl
any-sort p (x ∷ l) = any-insert p x (sort_of l) ∙ ap (λ t. p x || t) (any-sort p l)

any-lows : (p : ℕ → Bool) (l : List ℕ) → any p (lows l) ≡ any (λ w. p (w % 65536)) l
unfolding any
any-lows p [] = refl
any-lows p (w ∷ l) = ap (λ t. p (w % 65536) || t) (any-lows p l)

-- ---- what is tried
any-kept : (p q : ℕ → Bool) → ((x : ℕ) → q x ≡ false → p x ≡ false) → (l : List ℕ) → any p (keep q l) ≡ any p l
unfolding any
any-kept p q h [] = unfold keep in refl
any-kept p q h (x ∷ l) = go (q x) refl (any-kept p q h l)
  where
    go : (b : Bool) → q x ≡ b → any p (keep q l) ≡ any p l → any p (keep q (x ∷ l)) ≡ (p x || any p l)
    go true e ih = ap (any p) (keep-yes q x l e) ∙ ap (λ t. p x || t) ih
    go false e ih = ap (any p) (keep-no q x l e) ∙ ih ∙ sym (ap (λ t. t || any p l) (h x e))

-- ---- a node that is joined with one of a list is below 65,536
pub high-none : (joined : List ℕ) (u : ℕ) (list : List ℕ) → 65536 ≤ u → keep (word_in joined u) list ≡ []
unfolding word_in
high-none joined u list h = keep-none (word_in joined u) list (λ v. rw (le-ltb u 65536 h))

low-node : (joined : List ℕ) (u t : ℕ) (list : List ℕ) → t < length (keep (word_in joined u) list) → u < 65536
low-node joined u t list h = go (dec_le 65536 u)
  where
    go : Dec (65536 ≤ u) → u < 65536
    go (yes k) = let e : length (keep (word_in joined u) list) ≡ 0 = ap length (high-none joined u list k) in absurd (omega arith)
    go (no k) = omega arith

-- how many a part of a room has
pub part-count : (room l : List ℕ) (c n m k : ℕ) → c ≤ n → n ≤ m → k ≡ m → length room ≡ k → take c room ≡ l → c ≡ length l
part-count room l c n m k h fits e q x = let t = length-take c room in let z = ap length x in omega arith

-- ---- the loop: k are kept of the first i, and with those that are left they tell what all tell
pub record Sifting (joined list : List ℕ) (t : ℕ) (ids₀ ids : List ℕ) (k i : ℕ) : Type 0 where
  pub few : k ≤ i
  pub ahead : i ≤ length ids
  pub long : length ids ≡ length ids₀
  pub rest : drop i ids ≡ drop i ids₀
  pub some : (p : ℕ → Bool) → ((u : ℕ) → length (keep (word_in joined u) list) ≤ t → p u ≡ false) → (any p (lows (take k ids)) || any p (drop i ids₀)) ≡ any p ids₀

pub sift-start : {joined list : List ℕ} {t : ℕ} (ids : List ℕ) → Sifting joined list t ids ids 0 0
unfolding any
sift-start ids = record { few = omega arith; ahead = omega arith; long = refl; rest = refl; some = λ p h. refl }

module _ {joined list : List ℕ} {t : ℕ} {ids₀ ids : List ℕ} {k i : ℕ} (g : Sifting joined list t ids₀ ids k i) (h : i < length ids₀) where
  both : get_or ids i 0 ∷ drop (i + 1) ids ≡ get_or ids₀ i 0 ∷ drop (i + 1) ids₀
  both = let long = g.long in sym (drop-next ids i (omega arith)) ∙ g.rest ∙ drop-next ids₀ i h

  next : drop i ids₀ ≡ get_or ids i 0 ∷ drop (i + 1) ids₀
  next = drop-next ids₀ i h ∙ ap (λ x. x ∷ drop (i + 1) ids₀) (sym (ap (λ l. get_or l 0 0) both))

  pub sift-skip : {c : ℕ} → c ≡ length (keep (word_in joined (get_or ids i 0)) list) → c ≤ t → Sifting joined list t ids₀ ids k (i + 1)
  unfolding any
  sift-skip e q =
      let long = g.long in
      let few = g.few in
      record {
        few = omega arith;
        ahead = omega arith;
        long = g.long;
        rest = ap (drop 1) both;
        some = λ p f. rw (next, f (get_or ids i 0) (rw (sym e) q)) at (g.some p f);
      }

  pub sift-keep : {c : ℕ} (mark : ℕ) → c ≡ length (keep (word_in joined (get_or ids i 0)) list) → t < c
      → Sifting joined list t ids₀ (set ids k (mark * 65536 + get_or ids i 0 % 65536)) (k + 1) (i + 1)
  unfolding any
  sift-keep {c} mark e q =
      let long = g.long in
      let few = g.few in
      let u = get_or ids i 0 in
      let w = mark * 65536 + u % 65536 in
      let low : u < 65536 = low-node joined u t list (rw (sym e) q) in
      let same : w % 65536 ≡ u = omega arith in
      let front : take (k + 1) (set ids k w) ≡ take k ids ++ (w ∷ []) = rw add-one (take-suc-set ids k w (omega arith)) in
      record {
        few = omega arith;
        ahead = simp length-set (omega arith);
        long = length-set ids k w ∙ g.long;
        rest = drop-set-lt (i + 1) ids k w (omega arith) ∙ ap (drop 1) both;
        some = λ p f.
            ap (λ l. any p (lows l) || any p (drop (i + 1) ids₀)) front ∙ ap (λ l. any p l || any p (drop (i + 1) ids₀)) (map-append (λ w. w % 65536) (take k ids) (w ∷ []))
            ∙ ap (λ b. b || any p (drop (i + 1) ids₀)) (any-append p (lows (take k ids)) (w % 65536 ∷ []) ∙ ap (λ v. any p (lows (take k ids)) || (p v || false)) same ∙ ap (λ b. any p (lows (take k ids)) || b) (or-false (p u)))
            ∙ or_assoc (any p (lows (take k ids))) (p u) (any p (drop (i + 1) ids₀)) ∙ rw next at (g.some p f);
      }

pub sift-done : {joined list : List ℕ} {t : ℕ} {ids₀ ids : List ℕ} {k i : ℕ} → Sifting joined list t ids₀ ids k i → length ids₀ ≤ i
    → (k ≤ length ids₀) × Sifted joined list t ids₀ (take k ids)
unfolding any
sift-done {joined} {list} {t} {ids₀} {ids} {k} {i} g h =
    let long = g.long in
    let few = g.few in
    let ahead = g.ahead in
    (omega arith, record { some = λ p f. sym (or-false (any p (lows (take k ids)))) ∙ rw (drop_of_length-le ids₀ {i = i} h) at (g.some p f) })

-- ---- sorted, and tried before
pub sorted-front : {joined list ids₀ : List ℕ} {t : ℕ} (ids last : List ℕ) (k : ℕ) → (k ≤ length ids₀) × Sifted joined list t ids₀ (take k ids) → length ids ≡ length ids₀
    → last ≡ sort_of (take k ids) → Sifted joined list t ids₀ (take k (last ++ drop k ids))
sorted-front {joined} {list} {ids₀} {t} ids last k s e q =
    let h = s.0 in
    let long : length last ≡ k = ap length q ∙ length-sort (take k ids) ∙ length-take-le k ids (omega arith) in
    rw (take_at last (drop k ids) k long, q)
    (record { some = λ p f. any-lows p (sort_of (take k ids)) ∙ any-sort (λ w. p (w % 65536)) (take k ids) ∙ sym (any-lows p (take k ids)) ∙ s.1.some p f })

pub tried-front : {nodes joined list : List ℕ} {l t : ℕ} (out ids : List ℕ) (n k : ℕ) → n ≤ 65536 → Tried nodes joined l list (take n out) → length ids ≡ length (take n out)
    → (k ≤ length (take n out)) × Sifted joined list t (take n out) (take k ids) → (k ≤ 65536) × Sifted joined list t (labelled_in nodes l) (take k (ids ++ drop n out))
tried-front {nodes} {joined} {list} {l} {t} out ids n k few r e s =
    let m = length-take n out in
    let h = s.0 in (
      omega arith,
      rw (take-append-le k ids (drop n out) (omega arith))
          (record {
            some = λ p f.
                s.1.some p f ∙ ap (any p) r.all
                ∙ any-kept p r.test (λ u e. f u (let z : length (keep (word_in joined u) list) ≡ 0 = ap length (r.rest u e) in omega arith)) (labelled_in nodes l);
          }),
    )
