-- Laws of words that are put in the order of their places, and the states of the loops that do it. Assumes nothing.
use native.Mathlib.Omega.{arith}
use native.Mathlib.Decide.{dec_le, ℕ_discrete}
use mathlib.Core.Path.{◌≡◌, refl, sym, ap, ap₂, ◌∙◌}
use mathlib.Core.Bool.{Bool, true, false, cond, ◌||◌, false≢true}
use mathlib.Core.List.{List, [], ◌∷◌, ◌++◌, map, append-nil, append_assoc, map-map, map-id}
use Prim.Native.Nat.{ℕ, zero, suc, ◌+◌, ◌-◌, ◌*◌, ◌/◌, ◌%◌, ◌≤◌, ◌<◌}
use lib.Dec.{eqb, leb}
use lib.ListN.{length, take, drop, get_or, length-append, length-map, length-drop, take-append-drop, drop_of_length-le}
use lib.Seq.{drop-drop, drop_at, take_at, get_or-take, get_or-drop, take_all, length-take-le}
use borrow.Rule.Slice.PartMut.{put_mid}
use borrow.Author.Tests.{le-leb, lt-leb, eq-eqb, ne_eqb, eqb-true}
use Rattle.std.specs.List.{HoldsAt, AllWithin}
use Rattle.rules.specs.Words.{u16_at}
use Rattle.rules.specs.Lists.{has, insert, sort_of, set_of}
use Rattle.laws.specs.Strict.{From, Strict, below, drop-from, take-from}
use Rattle.rules.specs.Store.{nodes_in, label_at}
use Rattle.laws.specs.Has.{first-has, later-has, has-get}
use Rattle.laws.specs.Sets.{is-set, length-sort}
use Rattle.laws.specs.Searching.{lower, lower-within, before-lower, after-lower}
use Rattle.laws.specs.Cases.{or-swap}
use Rattle.laws.specs.Distinct.{Distinct, sort-strict}
use Rattle.build_edges.specs.Starts.{Climbs}
use Rattle.build_neighbours.specs.Side.{place_of, places, Arranged}
use Rattle.build_neighbours.specs.Arrange.{key_of, word_for, arranged_one, insert_by, sort_by, arranged_all}

-- ---- ascending words by their places in the list
least : (f : ℕ → ℕ) (n : ℕ) (ws : List ℕ) → From n (map f ws) → (i : ℕ) → i < length ws → n ≤ f (get_or ws i 0)
unfolding From
least f n [] s i h = absurd (omega arith)
least f n (y ∷ ws) s zero h = s.0
least f n (y ∷ ws) s (suc i) h = let a = s.0 in let b = least f (suc (f y)) ws s.1 i (omega arith) in omega arith

-- what ascends by f is in the order of f
ordered : (f : ℕ → ℕ) (n : ℕ) (ws : List ℕ) → From n (map f ws) → (i j : ℕ) → i ≤ j → j < length ws → f (get_or ws i 0) ≤ f (get_or ws j 0)
unfolding From
ordered f n [] s i j h k = absurd (omega arith)
ordered f n (y ∷ ws) s zero zero h k = omega arith
ordered f n (y ∷ ws) s zero (suc j) h k = let b = least f (suc (f y)) ws s.1 j (omega arith) in omega arith
ordered f n (y ∷ ws) s (suc i) zero h k = absurd (omega arith)
ordered f n (y ∷ ws) s (suc i) (suc j) h k = ordered f (suc (f y)) ws s.1 i j (omega arith) (omega arith)

ascending : (ws : List ℕ) → Strict ws → (i j : ℕ) → i ≤ j → j < length ws → get_or ws i 0 ≤ get_or ws j 0
ascending ws s = ordered (λ x. x) 0 ws (rw map-id s)

-- ---- where the words of one node end
-- the first j words lie below the end of the words of word i's node
pub record Run (ws : List ℕ) (i j : ℕ) : Type 0 where
  pub some : i < j
  pub within : j ≤ length ws
  pub mine : (k : ℕ) → k < j → get_or ws k 0 < (get_or ws i 0 / 65536 + 1) * 65536

is-lower : (x : ℕ) (ws : List ℕ) (r : ℕ) → Strict ws → r ≤ length ws → ((k : ℕ) → k < r → get_or ws k 0 < x) → (r < length ws → x ≤ get_or ws r 0) → r ≡ lower x ws
is-lower x ws r s w b a = go (dec_le r (lower x ws)) (dec_le (lower x ws) r)
  where
    go : Dec (r ≤ lower x ws) → Dec (lower x ws ≤ r) → r ≡ lower x ws
    go (yes p) (yes q) = omega arith
    go (yes p) (no q) =
        let n = lower-within x ws in
        let c = before-lower x ws s r (omega arith) in
        let d = a (omega arith) in
        absurd (omega arith)
    go (no p) q =
        let c = b (lower x ws) (omega arith) in
        let d = after-lower x ws s (lower x ws) (omega arith) (omega arith) in
        absurd (omega arith)

module _ (ws : List ℕ) (i : ℕ) (s : Strict ws) (h : i < length ws) where
  abbrev Ended : ℕ → Type 0
  Ended j = ((i < j) × (j ≤ length ws)) × (j ≡ lower ((get_or ws i 0 / 65536 + 1) * 65536) ws)

  -- word i and those after it up to word i + n have one high half
  run-to : (n : ℕ) → 0 < n → i + n ≤ length ws → ((k : ℕ) → k < n → get_or ws (i + k) 0 / 65536 ≡ get_or ws i 0 / 65536) → Run ws i (i + n)
  run-to n z w g = record { some = omega arith; within = w; mine = λ k q. go k q (dec_le k i) }
    where
      go : (k : ℕ) → k < i + n → Dec (k ≤ i) → get_or ws k 0 < (get_or ws i 0 / 65536 + 1) * 65536
      go k q (yes p) = let o = ascending ws s k i p h in omega arith
      go k q (no p) =
          let e : i + (k - i) ≡ k = omega arith in
          let one : get_or ws k 0 / 65536 ≡ get_or ws i 0 / 65536 = ap (λ m. get_or ws m 0 / 65536) (sym e) ∙ g (k - i) (omega arith) in
          omega arith

  ended-by : {j : ℕ} → Run ws i j → (j < length ws → (get_or ws i 0 / 65536 + 1) * 65536 ≤ get_or ws j 0) → Ended j
  ended-by {j} g a = ((g.some, g.within), is-lower ((get_or ws i 0 / 65536 + 1) * 65536) ws j s g.within g.mine a)

  -- the first of them with another high half is the one at n
  run-other : (n : ℕ) → i + n < length ws → (get_or ws (i + n) 0 / 65536 ≡ get_or ws i 0 / 65536 → ⊥) → ((k : ℕ) → k < n → get_or ws (i + k) 0 / 65536 ≡ get_or ws i 0 / 65536) → Ended (i + n)
  run-other n w f g = go (dec_le n 0)
    where
      go : Dec (n ≤ 0) → Ended (i + n)
      go (yes p) =
          let e : i + n ≡ i = omega arith in
          absurd (f (ap (λ m. get_or ws m 0 / 65536) e))
      go (no p) = ended-by (run-to n (omega arith) (omega arith) g) (λ _.
          let o = ascending ws s i (i + n) (omega arith) w in
          let apart : get_or ws i 0 / 65536 < get_or ws (i + n) 0 / 65536 = above (dec_le (get_or ws (i + n) 0 / 65536) (get_or ws i 0 / 65536)) in
          omega arith)
        where
          above : Dec (get_or ws (i + n) 0 / 65536 ≤ get_or ws i 0 / 65536) → get_or ws i 0 / 65536 < get_or ws (i + n) 0 / 65536
          above (yes q) = let o = ascending ws s i (i + n) (omega arith) w in absurd (f (omega arith))
          above (no q) = omega arith

  -- there is no other
  run-last : ((k : ℕ) → k < length ws - i → get_or ws (i + k) 0 / 65536 ≡ get_or ws i 0 / 65536) → Ended (length ws)
  run-last g =
      let e : i + (length ws - i) ≡ length ws = omega arith in
      rw e at (ended-by (run-to (length ws - i) (omega arith) (omega arith) g) (λ q. absurd (omega arith)))

  -- the words from i on, as a search through them tells it
  abbrev same : ℕ → Type 0
  same w = w / 65536 ≡ get_or ws i 0 / 65536

  abbrev ahead : List ℕ
  ahead = take (length ws - i) (drop i ws)

  ahead-word : (k : ℕ) → k < length ws - i → get_or ahead k 0 ≡ get_or ws (i + k) 0
  ahead-word k q = get_or-take (length ws - i) (drop i ws) k 0 q ∙ get_or-drop i ws k 0

  ahead-length : length ahead ≡ length ws - i
  ahead-length = length-take-le (length ws - i) (drop i ws) (omega (arith, length-drop i ws))

  pub other-told : (n : ℕ) → (n < length ahead) × HoldsAt (λ w. same w → ⊥) ahead n × AllWithin same ahead 0 n → Ended (i + n)
  other-told n t =
      let m = ahead-length in
      let a : (k : ℕ) → k < n + 1 → get_or ws (i + k) 0 ≡ get_or ahead k 0 = λ k q. sym (ahead-word k (omega (arith, t.0))) in
      run-other n (omega (arith, t.0)) (λ e. t.1 0 (ap (λ x. x / 65536) (sym (a n (omega arith))) ∙ e)) (λ k q. ap (λ x. x / 65536) (a k (omega arith)) ∙ t.2 k 0 (omega arith) q)

  pub none-told : AllWithin same ahead 0 (length ahead) → Ended (length ws)
  none-told t = let m = ahead-length in run-last (λ k q. ap (λ x. x / 65536) (sym (ahead-word k q)) ∙ t k 0 (omega arith) (omega arith))

-- ---- sorting by f
insert-front : (f : ℕ → ℕ) (x y : ℕ) (ys : List ℕ) → f x ≤ f y → insert_by f x (y ∷ ys) ≡ x ∷ y ∷ ys
unfolding insert_by
insert-front f x y ys h = rw (le-leb (f x) (f y) h)

insert-later : (f : ℕ → ℕ) (x y : ℕ) (ys : List ℕ) → f y < f x → insert_by f x (y ∷ ys) ≡ y ∷ insert_by f x ys
unfolding insert_by
insert-later f x y ys h = rw (lt-leb (f x) (f y) h)

insert-values : (f : ℕ → ℕ) (x : ℕ) (l : List ℕ) → map f (insert_by f x l) ≡ insert (f x) (map f l)
unfolding insert_by insert
insert-values f x [] = refl
insert-values f x (y ∷ l) = go (leb (f x) (f y)) (insert-values f x l)
  where
    go : (t : Bool) → map f (insert_by f x l) ≡ insert (f x) (map f l) → map f (cond t (x ∷ y ∷ l) (y ∷ insert_by f x l)) ≡ cond t (f x ∷ f y ∷ map f l) (f y ∷ insert (f x) (map f l))
    go true ih = refl
    go false ih = ap (λ t. f y ∷ t) ih

-- the values are then sorted
sort-values : (f : ℕ → ℕ) (l : List ℕ) → map f (sort_by f l) ≡ sort_of (map f l)
unfolding sort_by sort_of
sort-values f [] = refl
sort-values f (x ∷ l) = insert-values f x (sort_by f l) ∙ ap (insert (f x)) (sort-values f l)

insert-has : (f : ℕ → ℕ) (z x : ℕ) (l : List ℕ) → has z (insert_by f x l) ≡ (eqb z x || has z l)
unfolding insert_by has
insert-has f z x [] = refl
insert-has f z x (y ∷ l) = go (leb (f x) (f y)) (insert-has f z x l)
  where
    go : (t : Bool) → has z (insert_by f x l) ≡ (eqb z x || has z l) → has z (cond t (x ∷ y ∷ l) (y ∷ insert_by f x l)) ≡ (eqb z x || (eqb z y || has z l))
    go true ih = refl
    go false ih = ap (λ t. eqb z y || t) ih ∙ or-swap (eqb z y) (eqb z x) (has z l)

-- the members stay
sort-has : (f : ℕ → ℕ) (z : ℕ) (l : List ℕ) → has z (sort_by f l) ≡ has z l
unfolding sort_by has
sort-has f z [] = refl
sort-has f z (x ∷ l) = insert-has f z x (sort_by f l) ∙ ap (λ t. eqb z x || t) (sort-has f z l)

-- ---- numbers that do not repeat are strictly ascending once they are sorted
one-to-one-has : (f : ℕ → ℕ) → ((x y : ℕ) → f x ≡ f y → x ≡ y) → (z : ℕ) (l : List ℕ) → has (f z) (map f l) ≡ has z l
unfolding has
one-to-one-has f one z [] = refl
one-to-one-has f one z (y ∷ l) = ap₂ ◌||◌ (go (ℕ_discrete z y)) (one-to-one-has f one z l)
  where
    go : Dec (z ≡ y) → eqb (f z) (f y) ≡ eqb z y
    go (yes e) = eq-eqb (f z) (f y) (ap f e) ∙ sym (eq-eqb z y e)
    go (no e) = ne_eqb (f z) (f y) (λ q. e (one z y q)) ∙ sym (ne_eqb z y e)

values-distinct : (f : ℕ → ℕ) → ((x y : ℕ) → f x ≡ f y → x ≡ y) → (n : ℕ) (l : List ℕ) → From n l → Distinct (map f l)
unfolding From Distinct
values-distinct f one n [] s = tt
values-distinct f one n (y ∷ l) s = (one-to-one-has f one y l ∙ below y (suc y) l s.1 (omega arith), values-distinct f one (suc y) l s.1)

-- ---- parts that stand apart are sorted apart
insert-apart : (f : ℕ → ℕ) (m x : ℕ) (s t : List ℕ) → f x < m → ((z : ℕ) → has z t ≡ true → m ≤ f z) → insert_by f x (s ++ t) ≡ insert_by f x s ++ t
unfolding insert_by
insert-apart f m x [] [] h k = refl
insert-apart f m x [] (y ∷ t) h k = let q = k y (first-has y t) in insert-front f x y t (omega arith)
insert-apart f m x (y ∷ s) t h k = go (leb (f x) (f y)) (insert-apart f m x s t h k)
  where
    go : (b : Bool) → insert_by f x (s ++ t) ≡ insert_by f x s ++ t
        → cond b (x ∷ y ∷ (s ++ t)) (y ∷ insert_by f x (s ++ t)) ≡ cond b (x ∷ y ∷ s) (y ∷ insert_by f x s) ++ t
    go true ih = refl
    go false ih = ap (λ l. y ∷ l) ih

sort-apart : (f : ℕ → ℕ) (m : ℕ) (a b : List ℕ) → ((z : ℕ) → has z a ≡ true → f z < m) → ((z : ℕ) → has z b ≡ true → m ≤ f z) → sort_by f (a ++ b) ≡ sort_by f a ++ sort_by f b
unfolding sort_by
sort-apart f m [] b h k = refl
sort-apart f m (x ∷ a) b h k =
    ap (insert_by f x) (sort-apart f m a b (λ z q. h z (later-has x z a q)) k)
    ∙ insert-apart f m x (sort_by f a) (sort_by f b) (h x (first-has x a)) (λ z q. k z (sym (sort-has f z b) ∙ q))

-- ---- two functions that order the members alike
insert-alike : (f g : ℕ → ℕ) (x : ℕ) (l : List ℕ) → ((y : ℕ) → has y l ≡ true → leb (f x) (f y) ≡ leb (g x) (g y)) → insert_by f x l ≡ insert_by g x l
unfolding insert_by
insert-alike f g x [] h = refl
insert-alike f g x (y ∷ l) h = rw (h y (first-has y l), insert-alike f g x l (λ z q. h z (later-has y z l q)))

sort-alike : (f g : ℕ → ℕ) (l : List ℕ) → ((x y : ℕ) → has x l ≡ true → has y l ≡ true → leb (f x) (f y) ≡ leb (g x) (g y)) → sort_by f l ≡ sort_by g l
unfolding sort_by
sort-alike f g [] h = refl
sort-alike f g (x ∷ l) h =
    insert-alike f g x (sort_by f l) (λ y q. h x y (first-has x l) (later-has x y l (sym (sort-has f y l) ∙ q)))
    ∙ ap (insert_by g x) (sort-alike f g l (λ y z p q. h y z (later-has x y l p) (later-has x z l q)))

map-fixed : (h : ℕ → ℕ) (l : List ℕ) → ((z : ℕ) → has z l ≡ true → h z ≡ z) → map h l ≡ l
map-fixed h [] f = refl
map-fixed h (x ∷ l) f = ap₂ ◌∷◌ (f x (first-has x l)) (map-fixed h l (λ z q. f z (later-has x z l q)))

-- ---- keys and places
leb-shift : (a x y : ℕ) → leb (a + x) (a + y) ≡ leb x y
leb-shift a x y = go (dec_le x y)
  where
    go : Dec (x ≤ y) → leb (a + x) (a + y) ≡ leb x y
    go (yes h) = le-leb (a + x) (a + y) (omega arith) ∙ sym (le-leb x y h)
    go (no h) = lt-leb (a + x) (a + y) (omega arith) ∙ sym (lt-leb x y (omega arith))

place-key : (nodes : List ℕ) (v w : ℕ) → w / 65536 ≡ v → place_of nodes w ≡ v * 4294967296 + key_of nodes w
unfolding place_of key_of
place-key nodes v w e = omega arith

key-word : (nodes : List ℕ) (v w : ℕ) → w / 65536 ≡ v → word_for v (key_of nodes w) ≡ w
unfolding word_for key_of
key-word nodes v w e = omega arith

-- the words of one node are put in the order of their places by their keys
one-arranged : (nodes : List ℕ) (v : ℕ) (l : List ℕ) → ((z : ℕ) → has z l ≡ true → z / 65536 ≡ v) → arranged_one nodes v l ≡ arranged_all nodes l
one-arranged nodes v l mine =
    ap (map (word_for v)) (sym (sort-values (key_of nodes) l)) ∙ map-map (word_for v) (key_of nodes) (sort_by (key_of nodes) l)
    ∙ map-fixed (λ w. word_for v (key_of nodes w)) (sort_by (key_of nodes) l) (λ z q. key-word nodes v z (mine z (sym (sort-has (key_of nodes) z l) ∙ q)))
    ∙ sort-alike (key_of nodes) (place_of nodes) l (λ x y p q.
    sym (leb-shift (v * 4294967296) (key_of nodes x) (key_of nodes y))
    ∙ ap₂ leb (sym (place-key nodes v x (mine x p))) (sym (place-key nodes v y (mine y q))))

-- labels fit in two bytes
pub Small : List ℕ → Type 0
Small nodes = (v : ℕ) → label_at nodes v < 65536

pub small : (nodes : List ℕ) → ((i : ℕ) → get_or nodes i 0 < 256) → Small nodes
unfolding Small u16_at
small nodes h v = let a = h (v * 8) in let b = h (v * 8 + 1) in omega arith

module _ (nodes : List ℕ) (few : Small nodes) where
  place-below : (a w : ℕ) → w / 65536 < a → place_of nodes w < a * 4294967296
  unfolding place_of Small
  place-below a w h = let l = few (w % 65536) in omega arith

  place-from : (a w : ℕ) → a ≤ w / 65536 → a * 4294967296 ≤ place_of nodes w
  unfolding place_of
  place-from a w h = omega arith

  place-one : (x y : ℕ) → place_of nodes x ≡ place_of nodes y → x ≡ y
  unfolding place_of Small
  place-one x y e = let p = few (x % 65536) in let q = few (y % 65536) in omega arith

  place-high : (x y : ℕ) → place_of nodes x ≤ place_of nodes y → x / 65536 ≤ y / 65536
  unfolding place_of Small
  place-high x y h = let p = few (x % 65536) in let q = few (y % 65536) in omega arith

  -- ---- what is promised of all words
  pub arranged : (words out : List ℕ) → Strict words → ((w : ℕ) → has w words ≡ true → w % 65536 < nodes_in nodes) → out ≡ arranged_all nodes words
      → (Arranged nodes out × Climbs out) × (set_of out ≡ words)
  arranged words out s inside e =
      let up : Strict (places nodes (arranged_all nodes words)) = rw (sort-values (place_of nodes) words) (sort-strict (map (place_of nodes) words) (values-distinct (place_of nodes) place-one 0 words s)) in
      let members : (z : ℕ) → has z words ≡ has z (arranged_all nodes words) = λ z. sym (sort-has (place_of nodes) z words) in
      rw e (
        (
          record { ascends = up; inside = λ w q. inside w (members w ∙ q) },
          record { up = λ i j h k. place-high _ _ (ordered (place_of nodes) 0 (arranged_all nodes words) up i j h k) },
        ),
        sym (is-set words (arranged_all nodes words) s members),
      )

-- ---- the words of the first node
at-index : (z : ℕ) (l : List ℕ) → has z l ≡ true → (i : ℕ) × ((i < length l) × (get_or l i 0 ≡ z))
unfolding has
at-index z [] h = absurd (false≢true h)
at-index z (y ∷ l) h = go (eqb z y) refl h (at-index z l)
  where
    go : (t : Bool) → eqb z y ≡ t → (t || has z l) ≡ true → (has z l ≡ true → (i : ℕ) × ((i < length l) × (get_or l i 0 ≡ z))) → (i : ℕ) × ((i < suc (length l)) × (get_or (y ∷ l) i 0 ≡ z))
    go true e h ih = (0, (omega arith, sym (eqb-true z y e)))
    go false e h ih = let r = ih h in (suc r.0, (omega (arith, r.1.0), r.1.1))

take-has : (n z : ℕ) (l : List ℕ) → n ≤ length l → has z (take n l) ≡ true → (k : ℕ) × ((k < n) × (get_or l k 0 ≡ z))
take-has n z l h q =
    let r = at-index z (take n l) q in
    let b : r.0 < n = omega (arith, r.1.0, length-take-le n l h) in
    (r.0, (b, sym (get_or-take n l r.0 0 b) ∙ r.1.1))

drop-has : (n z : ℕ) (l : List ℕ) → has z (drop n l) ≡ true → (k : ℕ) × (((n ≤ k) × (k < length l)) × (get_or l k 0 ≡ z))
drop-has n z l q =
    let r = at-index z (drop n l) q in
    let b = length-drop n l in
    (n + r.0, ((omega arith, omega (arith, r.1.0)), sym (get_or-drop n l r.0 0) ∙ r.1.1))

from-above : (n : ℕ) (l : List ℕ) → Strict l → ((z : ℕ) → has z l ≡ true → n ≤ z) → From n l
unfolding From
from-above n [] s h = tt
from-above n (y ∷ l) s h = (h y (first-has y l), s.1)

few-below : (n m : ℕ) (l : List ℕ) → From n l → ((z : ℕ) → has z l ≡ true → z < m) → length l ≤ m - n
unfolding From
few-below n m [] s h = omega arith
few-below n m (y ∷ l) s h =
    let a = s.0 in
    let b = h y (first-has y l) in
    let c = few-below (suc y) m l s.1 (λ z q. h z (later-has y z l q)) in
    omega arith

module _ (s : List ℕ) (r : ℕ) (up : Strict s) (some : 0 < r) (within : r ≤ length s) (end : r ≡ lower ((get_or s 0 0 / 65536 + 1) * 65536) s) where
  run-mine : (z : ℕ) → has z (take r s) ≡ true → z / 65536 ≡ get_or s 0 0 / 65536
  run-mine z q =
      let k = take-has r z s within q in
      let a = before-lower ((get_or s 0 0 / 65536 + 1) * 65536) s up k.0 (omega (arith, k.1.0)) in
      let b = ascending s up 0 k.0 (omega arith) (omega (arith, k.1.0)) in
      omega (arith, k.1.1)

  run-rest : (z : ℕ) → has z (drop r s) ≡ true → get_or s 0 0 / 65536 + 1 ≤ z / 65536
  run-rest z q =
      let k = drop-has r z s q in
      let a = after-lower ((get_or s 0 0 / 65536 + 1) * 65536) s up k.0 (omega (arith, k.1.0.0)) k.1.0.1 in
      omega (arith, k.1.1)

  -- they are no more than there are ids
  run-few : length (take r s) ≤ 65536
  run-few =
      let v = get_or s 0 0 / 65536 in
      let a : From (v * 65536) (take r s) = from-above (v * 65536) (take r s) (take-from r 0 s up) (λ z q. omega (arith, run-mine z q)) in
      let b = few-below (v * 65536) ((v + 1) * 65536) (take r s) a (λ z q. omega (arith, run-mine z q)) in
      omega arith

  -- they are arranged by themselves
  run-arranged : (nodes : List ℕ) → Small nodes → arranged_one nodes (get_or (take r s) 0 0 / 65536) (take r s) ++ arranged_all nodes (drop r s) ≡ arranged_all nodes s
  run-arranged nodes few =
      let v = get_or s 0 0 / 65536 in
      let e : get_or (take r s) 0 0 ≡ get_or s 0 0 = get_or-take r s 0 0 some in
      let one : arranged_one nodes v (take r s) ≡ arranged_all nodes (take r s) = one-arranged nodes v (take r s) run-mine in
      let apart : sort_by (place_of nodes) (take r s ++ drop r s) ≡ arranged_all nodes (take r s) ++ arranged_all nodes (drop r s) =
      sort-apart (place_of nodes) ((v + 1) * 4294967296) (take r s) (drop r s)
      (λ z q. place-below nodes few (v + 1) z (omega (arith, run-mine z q))) (λ z q. place-from nodes few (v + 1) z (run-rest z q)) in
      rw e (ap (λ l. l ++ arranged_all nodes (drop r s)) one ∙ sym apart ∙ ap (sort_by (place_of nodes)) (take-append-drop r s))

-- ---- one node, in the words of the code: the keys, sorted, and the words made from them
pub by-keys : (nodes w keys keyed sorted out : List ℕ) (v : ℕ) → keyed ≡ map (key_of nodes) w ++ drop (length w) keys → sorted ≡ sort_of (take (length w) keyed)
    → out ≡ map (word_for v) (take (length w) (sorted ++ drop (length w) keyed)) ++ drop (length (take (length w) (sorted ++ drop (length w) keyed))) w → out ≡ arranged_one nodes v w
by-keys nodes w keys keyed sorted out v a b c =
    let front : take (length w) keyed ≡ map (key_of nodes) w = ap (take (length w)) a ∙ take_at (map (key_of nodes) w) (drop (length w) keys) (length w) (length-map w (key_of nodes)) in
    let all : sorted ≡ sort_of (map (key_of nodes) w) = b ∙ ap sort_of front in
    let n : length sorted ≡ length w = ap length all ∙ length-sort (map (key_of nodes) w) ∙ length-map w (key_of nodes) in
    let part : take (length w) (sorted ++ drop (length w) keyed) ≡ sorted = take_at sorted (drop (length w) keyed) (length w) n in
    c ∙ rw (part, n, drop_of_length-le w {i = length w} (omega arith), append-nil, all)

-- ---- all nodes: the first i words are arranged, and what is left is as it was
pub record Arranging (nodes entry : List ℕ) (i : ℕ) (words : List ℕ) : Type 0 where
  pub ahead : i ≤ length entry
  pub same : length words ≡ length entry
  pub behind : drop i words ≡ drop i entry
  pub todo : take i words ++ arranged_all nodes (drop i entry) ≡ arranged_all nodes entry

pub arranging : (nodes words : List ℕ) → Arranging nodes words 0 words
arranging nodes words = record { ahead = omega arith; same = refl; behind = refl; todo = refl }

pub all-arranged : {nodes entry : List ℕ} {i : ℕ} {words : List ℕ} → Arranging nodes entry i words → length words ≤ i → words ≡ arranged_all nodes entry
unfolding sort_by
all-arranged {nodes} {entry} {i} {words} g h =
    sym (take_all i words h) ∙ sym (append-nil (take i words)) ∙ rw (drop_of_length-le entry {i = i} (omega (arith, g.same))) at g.todo

module _ {nodes entry : List ℕ} {i : ℕ} {words : List ℕ} (g : Arranging nodes entry i words) (up : Strict entry) (h : i < length words) where
  abbrev rest : List ℕ
  rest = take (length words - i) (drop i words)

  rest-is : rest ≡ drop i entry
  rest-is = take_all (length words - i) (drop i words) (rw length-drop (omega arith)) ∙ g.behind

  rest-length : length rest ≡ length words - i
  rest-length = ap length rest-is ∙ length-drop i entry ∙ omega (arith, g.same)

  pub rest-asked : (0 < length rest) × Strict rest
  rest-asked = (omega (arith, rest-length), rw rest-is (drop-from i 0 entry up))

  module _ (r : ℕ) (e : ((0 < r) × (r ≤ length rest)) × (r ≡ lower ((get_or rest 0 0 / 65536 + 1) * 65536) rest)) where
    abbrev run : List ℕ
    run = take (i + r - i) (drop i words)

    pub run-within : i + r ≤ length words
    run-within = omega (arith, e.0.1, rest-length)

    some : 0 < r
    some = e.0.0

    within : r ≤ length (drop i entry)
    within = rw rest-is at e.0.1

    ends : r ≡ lower ((get_or (drop i entry) 0 0 / 65536 + 1) * 65536) (drop i entry)
    ends = rw rest-is at e.1

    run-is : run ≡ take r (drop i entry)
    run-is =
        let z : i + r - i ≡ r = omega arith in
        rw (z, g.behind)

    run-length : length run ≡ r
    run-length = ap length run-is ∙ length-take-le r (drop i entry) within

    pub run-asked : (keys scratch : List ℕ) → 65536 ≤ length keys → 65536 ≤ length scratch → ((w : ℕ) → has w entry ≡ true → w % 65536 < nodes_in nodes)
        → ((0 < length run) × ((length run ≤ length keys) × (length run ≤ length scratch))) × ((w : ℕ) → has w run ≡ true → w % 65536 < nodes_in nodes)
    run-asked keys scratch a b inside =
        let few : length run ≤ 65536 = rw run-is (run-few (drop i entry) r (drop-from i 0 entry up) some within ends) in
        ((omega (arith, run-length, some), (omega arith, omega arith)), λ w q. inside w (member w (rw run-is at q)))
      where
        member : (w : ℕ) → has w (take r (drop i entry)) ≡ true → has w entry ≡ true
        member w q =
            let k = take-has r w (drop i entry) within q in
            let n = length-drop i entry in
            let m : i + k.0 < length entry = omega (arith, k.1.0, within) in
            rw (sym (get_or-drop i entry k.0 0) ∙ k.1.1) at (has-get entry (i + k.0) m)

    pub run-next : Small nodes → (last : List ℕ) → last ≡ arranged_one nodes (get_or run 0 0 / 65536) run → Arranging nodes entry (i + r) (put_mid i (i + r - i) words last)
    run-next few last q =
        let z : i + r - i ≡ r = omega arith in
        let l : last ≡ arranged_one nodes (get_or (take r (drop i entry)) 0 0 / 65536) (take r (drop i entry)) = rw run-is at q in
        let n : length last ≡ r = ap length q ∙ length-map (sort_of (map (key_of nodes) run)) (word_for (get_or run 0 0 / 65536)) ∙ length-sort (map (key_of nodes) run) ∙ length-map run (key_of nodes) ∙ run-length in
        let t : length (take i words ++ last) ≡ i + r = length-append (take i words) last ∙ omega (arith, n, length-take-le i words (omega arith)) in
        let tail : drop (i + r - i) (drop i words) ≡ drop (i + r) entry = rw (z, g.behind) (drop-drop r i entry) in
        let whole : put_mid i (i + r - i) words last ≡ (take i words ++ last) ++ drop (i + r) entry =
        ap (λ x. take i words ++ (last ++ x)) tail ∙ sym (append_assoc (take i words) last (drop (i + r) entry)) in
        let one : last ++ arranged_all nodes (drop (i + r) entry) ≡ arranged_all nodes (drop i entry) =
        rw l (ap (λ x. arranged_one nodes (get_or (take r (drop i entry)) 0 0 / 65536) (take r (drop i entry)) ++ arranged_all nodes x) (sym (drop-drop r i entry))
        ∙ run-arranged (drop i entry) r (drop-from i 0 entry up) some within ends nodes few) in
        record {
          ahead = omega (arith, run-within, g.same);
          same = ap length whole ∙ length-append (take i words ++ last) (drop (i + r) entry) ∙ omega (arith, t, length-drop (i + r) entry, run-within, g.same);
          behind = ap (drop (i + r)) whole ∙ drop_at (take i words ++ last) (drop (i + r) entry) (i + r) t;
          todo =
              ap (λ x. take (i + r) x ++ arranged_all nodes (drop (i + r) entry)) whole
              ∙ ap (λ x. x ++ arranged_all nodes (drop (i + r) entry)) (take_at (take i words ++ last) (drop (i + r) entry) (i + r) t)
              ∙ append_assoc (take i words) last (arranged_all nodes (drop (i + r) entry)) ∙ ap (λ x. take i words ++ x) one ∙ g.todo;
        }
