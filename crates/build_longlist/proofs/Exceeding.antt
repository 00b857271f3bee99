-- Laws of lists longer than N: there is one exactly if a key has it, and what holds of a list holds of a longer one. Assumes nothing.
use native.Mathlib.Omega.{arith}
use native.Mathlib.Decide.{dec_le}
use mathlib.Core.Path.{◌≡◌, refl, sym, ap, ◌∙◌}
use mathlib.Core.Bool.{Bool, true, false, cond, not, ◌&&◌, ◌||◌, true≢false, false≢true}
use mathlib.Core.List.{List, [], ◌∷◌, ◌++◌, flat_map}
use Prim.Native.Nat.{ℕ, suc, ◌+◌, ◌%◌, ◌≤◌, ◌<◌}
use lib.Dec.{eqb}
use lib.ListN.{length, drop, get_or, drop_of_length-le}
use borrow.Author.Tests.{le-ltb, lt-ltb, ne_eqb, eqb-true}
use Rattle.std.proofs.Common.{Option, Some, None}
use Rattle.std.proofs.lemmas.Option.{none-some, same_Some}
use Rattle.std.specs.List.{filter, list_all}
use Rattle.rules.specs.Lists.{all, any, keep, has}
use Rattle.laws.specs.Strict.{Strict}
use Rattle.laws.specs.Keep.{keep-most, keep-yes, keep-no, keep-from, has-keep, keep-swap}
use Rattle.laws.specs.Slices.{drop-next}
use Rattle.laws.specs.Cases.{first-holds, second-holds}
use Rattle.laws.specs.Searching.{stands_in}
use Rattle.laws.specs.Any.{any-more}
use Rattle.build_edges.specs.Packed.{word_in, labelled_in}
use Rattle.build_edges.specs.Near.{words_of}
use Rattle.laws.specs.Lows.{lows}
use Rattle.build_neighbours.specs.Left.{labels_in}
use Rattle.build_neighbours.specs.declared.Labels.{Labels}
use Rattle.build_groups.specs.Keyed.{keyed_from}
use Rattle.build_keys.specs.Walk.{rest_of}
use Rattle.build_longlist.specs.Counting.{long_last}
use Rattle.build_longlist.specs.Exceed.{long_from, goes_with, Sifted, Rooms}
use Rattle.build_edges.proofs.Nearby.{either-side}
use Rattle.build_keys.proofs.Going.{labels-next, labels-none, labels-fall, keyed-short, keyed-here, keyed-on}

-- ---- some of a flat list
some-append : {A : Type 0} (a b : List A) → not (eqb (length (a ++ b)) 0) ≡ (not (eqb (length a) 0) || not (eqb (length b) 0))
some-append [] b = refl
some-append (x ∷ a) b = ap not (ne_eqb (suc (length (a ++ b))) 0 (λ e. omega arith)) ∙ sym (ap (λ t. not t || not (eqb (length b) 0)) (ne_eqb (suc (length a)) 0 (λ e. omega arith)))

some-flat : {A B : Type 0} (f : A → List B) (p : A → Bool) → ((x : A) → p x ≡ not (eqb (length (f x)) 0)) → (xs : List A) → any p xs ≡ not (eqb (length (flat_map f xs)) 0)
unfolding any flat_map
some-flat f p h [] = refl
some-flat f p h (x ∷ xs) = rw (h x, some-flat f p h xs) (sym (some-append (f x) (flat_map f xs)))

module _ (joined : ℕ → ℕ → Bool) (labelled : ℕ → List ℕ) (t : ℕ) where
  -- ---- the keys with lists longer than t
  pub long-short : (labels list : List ℕ) → length list ≤ t → long_from joined labelled t labels list ≡ false
  unfolding long_from
  long-short [] list h = le-ltb t (length list) h
  long-short (s ∷ labels) list h = rw (le-ltb t (length list) h)

  pub long-here : (list : List ℕ) → t < length list → long_from joined labelled t [] list ≡ true
  unfolding long_from
  long-here list h = lt-ltb t (length list) h

  pub long-on : (s : ℕ) (labels list : List ℕ) → t < length list
      → long_from joined labelled t (s ∷ labels) list ≡ any (λ u. long_from joined labelled t labels (keep (joined u) list)) (labelled s)
  unfolding long_from
  long-on s labels list h = rw (lt-ltb t (length list) h)

  -- there is one exactly if a key has it
  pub long-keyed : (labels key list : List ℕ) → long_from joined labelled t labels list ≡ not (eqb (length (keyed_from joined labelled t labels key list)) 0)
  long-keyed [] key list = go (dec_le (length list) t)
    where
      go : Dec (length list ≤ t) → long_from joined labelled t [] list ≡ not (eqb (length (keyed_from joined labelled t [] key list)) 0)
      go (yes h) = rw (long-short [] list h, keyed-short joined labelled t [] key list h)
      go (no h) = rw (long-here list (omega arith), keyed-here joined labelled t key list (omega arith))
  long-keyed (s ∷ labels) key list = go (dec_le (length list) t) (λ u. long-keyed labels (key ++ u ∷ []) (keep (joined u) list))
    where
      go : Dec (length list ≤ t) → ((u : ℕ) → long_from joined labelled t labels (keep (joined u) list) ≡ not (eqb (length (keyed_from joined labelled t labels (key ++ u ∷ []) (keep (joined u) list))) 0))
          → long_from joined labelled t (s ∷ labels) list ≡ not (eqb (length (keyed_from joined labelled t (s ∷ labels) key list)) 0)
      go (yes h) ih = rw (long-short (s ∷ labels) list h, keyed-short joined labelled t (s ∷ labels) key list h)
      go (no h) ih =
          rw (long-on s labels list (omega arith), keyed-on joined labelled t s labels key list (omega arith))
          (some-flat (λ u. keyed_from joined labelled t labels (key ++ u ∷ []) (keep (joined u) list)) (λ u. long_from joined labelled t labels (keep (joined u) list)) ih (labelled s))

  -- what some of a list give, the whole list gives
  pub long-more : (labels list : List ℕ) (p : ℕ → Bool) → long_from joined labelled t labels (keep p list) ≡ true → long_from joined labelled t labels list ≡ true
  long-more [] list p h = go (dec_le (length (keep p list)) t)
    where
      go : Dec (length (keep p list) ≤ t) → long_from joined labelled t [] list ≡ true
      go (yes k) = absurd (false≢true (sym (long-short [] (keep p list) k) ∙ h))
      go (no k) = long-here list (let m = keep-most p list in omega arith)
  long-more (s ∷ labels) list p h = go (dec_le (length (keep p list)) t) (λ u. long-more labels (keep (joined u) list) p)
    where
      go : Dec (length (keep p list) ≤ t) → ((u : ℕ) → long_from joined labelled t labels (keep p (keep (joined u) list)) ≡ true → long_from joined labelled t labels (keep (joined u) list) ≡ true)
          → long_from joined labelled t (s ∷ labels) list ≡ true
      go (yes k) ih = absurd (false≢true (sym (long-short (s ∷ labels) (keep p list) k) ∙ h))
      go (no k) ih =
          long-on s labels list (let m = keep-most p list in omega arith)
          ∙ any-more (λ u. long_from joined labelled t labels (keep (joined u) (keep p list))) (λ u. long_from joined labelled t labels (keep (joined u) list))
          (λ u q. ih u (ap (long_from joined labelled t labels) (keep-swap p (joined u) list) ∙ q)) (labelled s) (sym (long-on s labels (keep p list) (omega arith)) ∙ h)

  -- so where a list gives none, those of it give none
  pub none-less : (labels list : List ℕ) (p : ℕ → Bool) → long_from joined labelled t labels list ≡ false → long_from joined labelled t labels (keep p list) ≡ false
  none-less labels list p h = go (long_from joined labelled t labels (keep p list)) refl
    where
      go : (b : Bool) → long_from joined labelled t labels (keep p list) ≡ b → long_from joined labelled t labels (keep p list) ≡ false
      go true e = absurd (true≢false (sym (long-more labels list p e) ∙ h))
      go false e = e

-- ---- whoever is joined with u is joined with w
all-kept : (p q : ℕ → Bool) (l : List ℕ) → all q (keep p l) ≡ true → keep p l ≡ keep p (keep q l)
unfolding all
all-kept p q [] h = unfold keep in refl
all-kept p q (x ∷ l) h = go (p x) refl (q x) refl (all-kept p q l)
  where
    go : (a : Bool) → p x ≡ a → (b : Bool) → q x ≡ b → (all q (keep p l) ≡ true → keep p l ≡ keep p (keep q l)) → keep p (x ∷ l) ≡ keep p (keep q (x ∷ l))
    go true ep true eq ih = rw (keep-yes q x l eq, keep-yes p x l ep, keep-yes p x (keep q l) ep) (ap (λ m. x ∷ m) (ih (second-holds (q x) (all q (keep p l)) (rw (keep-yes p x l ep) at h))))
    go true ep false eq ih = absurd (false≢true (sym eq ∙ first-holds (q x) (all q (keep p l)) (rw (keep-yes p x l ep) at h)))
    go false ep true eq ih = rw (keep-yes q x l eq, keep-no p x l ep, keep-no p x (keep q l) ep) (ih (rw (keep-no p x l ep) at h))
    go false ep false eq ih = rw (keep-no q x l eq, keep-no p x l ep) (ih (rw (keep-no p x l ep) at h))

-- told by the words of u
pub goes-from : (near joined list : List ℕ) (u w : ℕ) (r : Bool) → near ≡ words_of joined u → r ≡ all (word_in joined w) (keep (λ v. stands_in v list) (lows near))
    → Strict joined → Strict list → u < 65536 → r ≡ goes_with joined list u w
unfolding goes_with
goes-from near joined list u w r e q s t h =
    q ∙ ap (λ l. all (word_in joined w) (keep (λ v. stands_in v list) (lows l))) e ∙ ap (all (word_in joined w)) (either-side joined list u s t h)

-- then u gives none where w gives none
pub goes-none : (nodes joined labels list : List ℕ) (t u w : ℕ) → goes_with joined list u w ≡ true
    → long_from (word_in joined) (labelled_in nodes) t labels (keep (word_in joined w) list) ≡ false
    → long_from (word_in joined) (labelled_in nodes) t labels (keep (word_in joined u) list) ≡ false
unfolding goes_with
goes-none nodes joined labels list t u w g h =
    ap (long_from (word_in joined) (labelled_in nodes) t labels) (all-kept (word_in joined u) (word_in joined w) list g)
    ∙ none-less (word_in joined) (labelled_in nodes) t labels (keep (word_in joined w) list) (word_in joined u) h

-- what a chain of std answers, in the words of the rules
filter-keep : (p : ℕ → Bool) (l : List ℕ) → filter p l ≡ keep p l
unfolding keep
filter-keep p [] = refl
filter-keep p (v ∷ l) = go (p v) (filter-keep p l)
  where
    go : (t : Bool) → filter p l ≡ keep p l → cond t (v ∷ filter p l) (filter p l) ≡ (cond t (v ∷ []) [] ++ keep p l)
    go true ih = ap (λ m. v ∷ m) ih
    go false ih = ih

list-all : (q : ℕ → Bool) (l : List ℕ) → list_all q l ≡ all q l
unfolding all
list-all q [] = refl
list-all q (v ∷ l) = ap (λ t. q v && t) (list-all q l)

pub all-filtered : (p q : ℕ → Bool) (l : List ℕ) → list_all q (filter p l) ≡ all q (keep p l)
all-filtered p q l = ap (list_all q) (filter-keep p l) ∙ list-all q (keep p l)

-- ---- a key that goes on with u
abbrev leads : List ℕ → List ℕ → Labels → ℕ → List ℕ → ℕ → Bool
leads nodes joined left t list u = long_from (word_in joined) (labelled_in nodes) t (labels_in (rest_of left)) (keep (word_in joined u) list)

-- ---- the loop of `exceeds_from`: the first i of the words are done, the node that is known led to no long list, and what is left decides the whole
pub record Trying (nodes joined : List ℕ) (left : Labels) (t : ℕ) (list words : List ℕ) (i : ℕ) (known : Option ℕ) (whole : Bool) : Type 0 where
  pub last : (w : ℕ) → known ≡ Some w → leads nodes joined left t list w ≡ false
  pub todo : whole ≡ any (leads nodes joined left t list) (lows (drop i words))

module _ {nodes joined : List ℕ} {left : Labels} {t : ℕ} {list words : List ℕ} where
  pub try-start : {known : Option ℕ} → known ≡ None → t < length list → (left.first ≡ 0 → ⊥) → Sifted joined list t (labelled_in nodes left.first) words
      → Trying nodes joined left t list words 0 known (long_from (word_in joined) (labelled_in nodes) t (labels_in left) list)
  try-start n h k s = record {
    last = λ w e. absurd (none-some w (sym n ∙ e));
    todo =
        ap (λ l. long_from (word_in joined) (labelled_in nodes) t l list) (labels-next left.first left.second left.third k)
        ∙ long-on (word_in joined) (labelled_in nodes) t left.first (labels_in (rest_of left)) list h
        ∙ sym (s.some (leads nodes joined left t list) (λ u q. long-short (word_in joined) (labelled_in nodes) t (labels_in (rest_of left)) (keep (word_in joined u) list) q));
  }

  module _ {i : ℕ} {known : Option ℕ} {whole : Bool} (g : Trying nodes joined left t list words i known whole) (u : ℕ) (h : i < length words) (e : u ≡ get_or words i 0 % 65536) where
    next : whole ≡ (leads nodes joined left t list u || any (leads nodes joined left t list) (lows (drop (i + 1) words)))
    unfolding any
    next = g.todo ∙ ap (λ l. any (leads nodes joined left t list) (lows l)) (drop-next words i h) ∙ ap (λ v. leads nodes joined left t list v || any (leads nodes joined left t list) (lows (drop (i + 1) words))) (sym e)

    -- u goes with the one that is known
    pub try-skip : (w : ℕ) × (known ≡ Some w) × (goes_with joined list u w ≡ true) → Trying nodes joined left t list words (i + 1) known whole
    try-skip q =
        let none = goes-none nodes joined (labels_in (rest_of left)) list t u q.0 q.2 (g.last q.0 q.1) in
        record { last = g.last; todo = next ∙ ap (λ b. b || any (leads nodes joined left t list) (lows (drop (i + 1) words))) none }

    -- u is followed
    module _ {left' : Labels} {list' : List ℕ} {r : Bool} (el : left' ≡ rest_of left) (ek : list' ≡ keep (word_in joined u) list)
        (q : r ≡ long_from (word_in joined) (labelled_in nodes) t (labels_in left') list') where
      followed : r ≡ leads nodes joined left t list u
      followed = q ∙ ap (λ l. long_from (word_in joined) (labelled_in nodes) t (labels_in l) list') el ∙ ap (long_from (word_in joined) (labelled_in nodes) t (labels_in (rest_of left))) ek

      pub try-next : {known' : Option ℕ} → known' ≡ Some u → r ≡ false → Trying nodes joined left t list words (i + 1) known' whole
      try-next n y =
          let none : leads nodes joined left t list u ≡ false = sym followed ∙ y in
          record {
            last = λ w f. rw (same_Some w u (sym f ∙ n)) none;
            todo = next ∙ ap (λ b. b || any (leads nodes joined left t list) (lows (drop (i + 1) words))) none;
          }

      pub try-stop : r ≡ true → true ≡ whole
      try-stop y = sym (next ∙ ap (λ b. b || any (leads nodes joined left t list) (lows (drop (i + 1) words))) (sym followed ∙ y))

  pub try-done : {i : ℕ} {known : Option ℕ} {whole : Bool} → Trying nodes joined left t list words i known whole → length words ≤ i → false ≡ whole
  unfolding any
  try-done {i} g h = sym (g.todo ∙ ap (λ l. any (leads nodes joined left t list) (lows l)) (drop_of_length-le words {i = i} h))

pub try-short : (nodes joined : List ℕ) (left : Labels) (t : ℕ) (list : List ℕ) → length list ≤ t → false ≡ long_from (word_in joined) (labelled_in nodes) t (labels_in left) list
try-short nodes joined left t list h = sym (long-short (word_in joined) (labelled_in nodes) t (labels_in left) list h)

pub try-whole : (nodes joined : List ℕ) (left : Labels) (t : ℕ) (list : List ℕ) → t < length list → left.first ≡ 0 → true ≡ long_from (word_in joined) (labelled_in nodes) t (labels_in left) list
try-whole nodes joined left t list h z =
    sym (ap (λ l. long_from (word_in joined) (labelled_in nodes) t l list) (labels-none left.first left.second left.third z) ∙ long-here (word_in joined) (labelled_in nodes) t list h)

-- one label is left, and nodes are counted, whatever else decides it
pub try-counted : (nodes joined : List ℕ) (left : Labels) (t : ℕ) (list : List ℕ) (also : Bool) {r : Bool} → t < length list → (left.first ≡ 0 → ⊥) → (eqb left.second 0 && also) ≡ true
    → r ≡ long_last nodes joined left.first t list → r ≡ long_from (word_in joined) (labelled_in nodes) t (labels_in left) list
unfolding long_last long_from
try-counted nodes joined left t list also h k one q =
    let z : left.second ≡ 0 = eqb-true left.second 0 (first-holds (eqb left.second 0) also one) in
    q ∙ sym (ap (λ l. long_from (word_in joined) (labelled_in nodes) t l list) (labels-next left.first left.second left.third k ∙ ap (λ l. left.first ∷ l) (labels-none left.second left.third 0 z))
    ∙ long-on (word_in joined) (labelled_in nodes) t left.first [] list h)

-- one level deeper
pub rooms-next : {nodes joined : List ℕ} {left left' : Labels} {list list' rooms rooms' : List ℕ} (p : ℕ → Bool) → Rooms nodes joined left list rooms
    → (left.first ≡ 0 → ⊥) → left' ≡ rest_of left → list' ≡ keep p list → length rooms ≤ length rooms' + 131072 → Rooms nodes joined left' list' rooms'
rooms-next {left = left} {left' = left'} {list = list} {list' = list'} p f h r l e =
    let less : length list' ≤ length list = rw l (keep-most p list) in
    let short = f.short in
    let long = f.long in
    let fall = labels-fall left left' h r in
    record {
      few = f.few;
      both = f.both;
      short = omega arith;
      ascends = rw l (keep-from p 0 list f.ascends);
      inside = λ v q. f.inside v (second-holds (p v) (has v list) (sym (has-keep p v list) ∙ rw l at q));
      long = omega arith;
    }

-- with a label left there are the rooms of one level
pub rooms-here : {nodes joined : List ℕ} {left : Labels} {list rooms : List ℕ} → Rooms nodes joined left list rooms → (left.first ≡ 0 → ⊥) → 131072 ≤ length rooms
rooms-here {left = left} f h = let long = f.long in let fall = labels-fall left (rest_of left) h refl in omega arith
