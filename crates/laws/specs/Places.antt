-- The order of keys, and where a key stands in the index of a graph: the groups of smaller keys come before it, those of greater ones after it. Assumes nothing.
use Rattle.std.specs.Prelude.{◌≡◌, Bool, true, false, not, eqb, length, get_or, take}
use Rattle.std.proofs.Math.Path.{refl, ap}
use Rattle.std.proofs.Common.{sym, ◌∙◌, true≢false, arith, eq-eqb, ne_eqb, lt-ltb, le-ltb, ltb-true}
use Rattle.std.proofs.lemmas.Bool.{false≢true}
use mathlib.Core.List.{List, [], ◌∷◌, ◌++◌, map, flat_map, append_assoc, map-append}
use Prim.Native.Nat.{ℕ, zero, suc, min, ◌+◌, ◌≤◌, ◌<◌}
use Rattle.std.proofs.Math.Decide.{dec_le, ℕ_discrete}
use Rattle.std.proofs.Math.Dec.{ltb}
use Rattle.rules.specs.Lists.{range, all, has, keep, choices, padded, less_then}
use Rattle.laws.specs.Strict.{From, below, from-above}
use Rattle.rules.specs.Store.{constraints_in, constraint_at, labels_of}
use Rattle.rules.specs.Graph.{Graph, labelled}
use Rattle.rules.specs.Index.{Group, no_id, keys_of, entries_of, groups_of, index_of}
use Rattle.rules.specs.declared.Constraint.{Constraint}
use Rattle.laws.specs.Cases.{and-yes}
use Rattle.laws.specs.All.{all-map, all-flat-by, all-kept, all-map-by, all-appended}
use Rattle.laws.specs.Keep.{keep-append}
use Rattle.laws.specs.KeyLists.{IsKey, labelled-has, labelled-strict, labels-few}
use Rattle.laws.specs.Range.{range-from, has-range}
use Rattle.laws.specs.Map.{flat-append}

-- ---- the order of two runs of words: at the first place where they differ, the word of the first is smaller
unfoldable pub ahead : List ℕ → List ℕ → Bool
ahead [] ys = false
ahead (x ∷ xs) [] = false
ahead (x ∷ xs) (y ∷ ys) = less_then x y (ahead xs ys)

module _ (x y : ℕ) (t : Bool) where
  less-yes : x < y → less_then x y t ≡ true
  less-yes h = rw (lt-ltb x y h)

  less-same : x ≡ y → less_then x y t ≡ t
  less-same h = rw (le-ltb x y (omega arith), eq-eqb x y h)

  less-no : y < x → less_then x y t ≡ false
  less-no h = rw (le-ltb x y (omega arith), ne_eqb x y (λ e. omega arith))

pub ahead-self : (xs : List ℕ) → ahead xs xs ≡ false
unfolding ahead
ahead-self [] = refl
ahead-self (x ∷ xs) = less-same x x (ahead xs xs) refl ∙ ahead-self xs

pub ahead-after : (xs ys : List ℕ) → ahead xs ys ≡ true → ahead ys xs ≡ false
unfolding ahead
ahead-after [] ys h = absurd (false≢true h)
ahead-after (x ∷ xs) [] h = absurd (false≢true h)
ahead-after (x ∷ xs) (y ∷ ys) h = go (dec_le x y) (dec_le y x) (ahead-after xs ys)
  where
    go : Dec (x ≤ y) → Dec (y ≤ x) → (ahead xs ys ≡ true → ahead ys xs ≡ false) → less_then y x (ahead ys xs) ≡ false
    go (yes a) (yes b) ih = less-same y x (ahead ys xs) (omega arith) ∙ ih (sym (less-same x y (ahead xs ys) (omega arith)) ∙ h)
    go (yes a) (no b) ih = less-no y x (ahead ys xs) (omega arith)
    go (no a) b ih = absurd (false≢true (sym (less-no x y (ahead xs ys) (omega arith)) ∙ h))

-- what follows doesn't matter, where one of the two is short
ahead-take : (n : ℕ) (xs ys a b : List ℕ) → min (length xs) (length ys) ≤ n → ahead xs ys ≡ true → ahead (take n (xs ++ a)) (take n (ys ++ b)) ≡ true
unfolding ahead
ahead-take n [] ys a b k h = absurd (false≢true h)
ahead-take n (x ∷ xs) [] a b k h = absurd (false≢true h)
ahead-take zero (x ∷ xs) (y ∷ ys) a b k h = absurd (omega arith)
ahead-take (suc n) (x ∷ xs) (y ∷ ys) a b k h = go (dec_le x y) (dec_le y x) (ahead-take n xs ys a b (omega arith))
  where
    rest : Bool
    rest = ahead (take n (xs ++ a)) (take n (ys ++ b))

    go : Dec (x ≤ y) → Dec (y ≤ x) → (ahead xs ys ≡ true → rest ≡ true) → less_then x y rest ≡ true
    go (yes c) (yes d) ih = less-same x y rest (omega arith) ∙ ih (sym (less-same x y (ahead xs ys) (omega arith)) ∙ h)
    go (yes c) (no d) ih = less-yes x y rest (omega arith)
    go (no c) d ih = absurd (false≢true (sym (less-no x y (ahead xs ys) (omega arith)) ∙ h))

-- so too of the three ids of two keys, one of which has at most three
ahead-padded : (xs ys : List ℕ) → min (length xs) (length ys) ≤ 3 → ahead xs ys ≡ true → ahead (padded no_id xs) (padded no_id ys) ≡ true
unfolding padded
ahead-padded xs ys k h = ahead-take 3 xs ys (no_id ∷ no_id ∷ no_id ∷ []) (no_id ∷ no_id ∷ no_id ∷ []) k h

-- ---- where an element stands in an ascending list
pub record Cut {A : Type 0} (less : A → A → Bool) (x : A) (l : List A) : Type 0 where
  pub before : List A
  pub after : List A
  pub whole : l ≡ before ++ x ∷ after
  pub lower : all (λ y. less y x) before ≡ true
  pub upper : all (λ y. less x y) after ≡ true

cut-strict : (n v : ℕ) (l : List ℕ) → From n l → has v l ≡ true → Cut ltb v l
unfolding From has all
cut-strict n v [] f h = absurd (false≢true h)
cut-strict n v (y ∷ l) f h = go (ℕ_discrete v y) (cut-strict (suc y) v l f.1)
  where
    go : Dec (v ≡ y) → (has v l ≡ true → Cut ltb v l) → Cut ltb v (y ∷ l)
    go (yes e) ih = record { before = []; after = l; whole = ap (λ z. z ∷ l) (sym e); lower = refl; upper = from-above v (suc y) l (omega arith) f.1 }
    go (no e) ih =
        let k : has v l ≡ true = rw (ne_eqb v y e) at h in
        let x = ih k in
        record {
          before = y ∷ x.before;
          after = x.after;
          whole = ap (λ m. y ∷ m) x.whole;
          lower = and-yes (ltb y v) (all (λ z. ltb z v) x.before) (lt-ltb y v (above (dec_le v y) k)) x.lower;
          upper = x.upper;
        }
      where
        above : Dec (v ≤ y) → has v l ≡ true → y < v
        above (yes q) k = absurd (true≢false (sym k ∙ below v (suc y) l f.1 (omega arith)))
        above (no q) k = omega arith

-- ---- where a key stands among the keys of a constraint
-- one list more in front
cut-more : (keys : List (List ℕ)) (xs : List ℕ) (u : ℕ) (ids : List ℕ) → Cut ltb u xs → Cut ahead ids keys → Cut ahead (u ∷ ids) (flat_map (λ x. map (λ k. x ∷ k) keys) xs)
unfolding flat_map
cut-more keys xs u ids a b =
    record {
      before = flat_map with a.before ++ map (λ k. u ∷ k) b.before;
      after = map (λ k. u ∷ k) b.after ++ flat_map with a.after;
      whole = whole;
      lower =
          all-appended (λ k. ahead k (u ∷ ids)) (flat_map with a.before) (map (λ k. u ∷ k) b.before)
          (all-flat-by (λ y. ltb y u) (λ k. ahead k (u ∷ ids)) with a.before (λ y h. all-map (λ k. ahead k (u ∷ ids)) (λ k. y ∷ k) keys (λ k. unfold ahead in less-yes y u (ahead k ids) (ltb-true y u h))) a.lower)
          (all-map-by (λ k. ahead k ids) (λ k. ahead k (u ∷ ids)) (λ k. u ∷ k) b.before (λ k h. unfold ahead in (less-same u u (ahead k ids) refl ∙ h)) b.lower);
      upper =
          all-appended (ahead (u ∷ ids)) (map (λ k. u ∷ k) b.after) (flat_map with a.after)
          (all-map-by (ahead ids) (ahead (u ∷ ids)) (λ k. u ∷ k) b.after (λ k h. unfold ahead in (less-same u u (ahead ids k) refl ∙ h)) b.upper)
          (all-flat-by (λ y. ltb u y) (ahead (u ∷ ids)) with a.after (λ y h. all-map (ahead (u ∷ ids)) (λ k. y ∷ k) keys (λ k. unfold ahead in less-yes u y (ahead ids k) (ltb-true u y h))) a.upper);
    }
  where
    with : ℕ → List (List ℕ)
    with x = map (λ k. x ∷ k) keys

    whole : flat_map with xs ≡ (flat_map with a.before ++ map (λ k. u ∷ k) b.before) ++ (u ∷ ids) ∷ (map (λ k. u ∷ k) b.after ++ flat_map with a.after)
    whole =
        ap (flat_map with) a.whole
        ∙ flat-append with a.before (u ∷ a.after)
        ∙ ap (λ l. flat_map with a.before ++ (map (λ k. u ∷ k) l ++ flat_map with a.after)) b.whole
        ∙ simp (map-append, append_assoc)

cut-keys : (g : Graph) (labels ids : List ℕ) → length ids ≡ length labels
    → ((j : ℕ) → j < length ids → get_or ids j 0 < g.size) → ((j : ℕ) → j < length ids → g.label (get_or ids j 0) ≡ get_or labels j 0)
    → Cut ahead ids (choices (map (labelled g) labels))
unfolding choices all
cut-keys g [] [] e n l = record { before = []; after = []; whole = refl; lower = refl; upper = refl }
cut-keys g [] (u ∷ ids) e n l = absurd (omega arith)
cut-keys g (s ∷ labels) [] e n l = absurd (omega arith)
cut-keys g (s ∷ labels) (u ∷ ids) e n l =
    let here : has u (labelled g s) ≡ true = labelled-has g s u ∙ and-yes _ _ (lt-ltb u g.size (n 0 (omega arith))) (eq-eqb (g.label u) s (l 0 (omega arith))) in
    cut-more (choices (map (labelled g) labels)) (labelled g s) u ids (cut-strict 0 u (labelled g s) (labelled-strict g s) here)
    (cut-keys g labels ids (omega arith) (λ j h. n (suc j) (omega arith)) (λ j h. l (suc j) (omega arith)))

-- ---- where a key stands in the index
-- the group of a key, and whether it is one
abbrev pub group_of : Graph → Constraint → ℕ → List ℕ → Group
group_of g d c ids = record { constraint = c; key = ids; entries = entries_of g d ids }

abbrev pub nonempty : Group → Bool
nonempty x = not (eqb (length x.entries) 0)

-- the words by which groups are ordered
abbrev pub group_words : Group → List ℕ
group_words x = x.constraint ∷ padded no_id x.key

abbrev pub key_words : ℕ → List ℕ → List ℕ
key_words c ids = c ∷ padded no_id ids

-- the groups before a key, its own if its list is not empty, and those after it
pub record Around (g : Graph) (constraints : List ℕ) (c : ℕ) (ids : List ℕ) : Type 0 where
  pub before : List Group
  pub after : List Group
  pub whole : index_of g constraints ≡ before ++ (keep nonempty (group_of g (constraint_at constraints c) c ids ∷ []) ++ after)
  pub lower : all (λ x. ahead (group_words x) (key_words c ids)) before ≡ true
  pub upper : all (λ x. ahead (key_words c ids) (group_words x)) after ≡ true

module _ (g : Graph) (constraints : List ℕ) (c : ℕ) (ids : List ℕ) (h : c < constraints_in constraints) (key : IsKey g (constraint_at constraints c) ids) where
  abbrev make : List ℕ → Group
  make k = group_of g (constraint_at constraints c) c k

  abbrev groups : ℕ → List Group
  groups y = groups_of g (constraint_at constraints y) y

  -- the key stands among the keys of its constraint, and that among the constraints
  pub key-cut : Cut ahead ids (keys_of g (constraint_at constraints c))
  unfolding keys_of
  key-cut = cut-keys g (labels_of (constraint_at constraints c)) ids key.size key.nodes key.labels

  pub number-cut : Cut ltb c (range 0 (constraints_in constraints))
  number-cut =
      let n = constraints_in constraints in
      cut-strict 0 c (range 0 n) (range-from 0 n) (has-range c 0 n (omega arith) ∙ lt-ltb c (0 + n) (omega arith))

  short : length ids ≤ 3
  short = let e = key.size in let k = labels-few (constraint_at constraints c) in omega arith

  -- the groups of one constraint
  own-groups : groups c ≡ keep nonempty (map make key-cut.before) ++ (keep nonempty (make ids ∷ []) ++ keep nonempty (map make key-cut.after))
  unfolding groups_of
  own-groups =
      ap (λ l. keep nonempty (map make l)) key-cut.whole
      ∙ ap (keep nonempty) (map-append make key-cut.before (ids ∷ key-cut.after))
      ∙ keep-append nonempty (map make key-cut.before) (make ids ∷ map make key-cut.after)
      ∙ ap (λ l. keep nonempty (map make key-cut.before) ++ l) (keep-append nonempty (make ids ∷ []) (map make key-cut.after))

  -- those of an earlier constraint come before, those of a later one after
  other-before : (y : ℕ) → y < c → all (λ x. ahead (group_words x) (key_words c ids)) (groups y) ≡ true
  unfolding groups_of ahead
  other-before y k =
      all-kept nonempty (λ x. ahead (group_words x) (key_words c ids)) (map (group_of g (constraint_at constraints y) y) (keys_of g (constraint_at constraints y)))
      (all-map (λ x. ahead (group_words x) (key_words c ids)) (group_of g (constraint_at constraints y) y) (keys_of g (constraint_at constraints y))
      (λ i. less-yes y c (ahead (padded no_id i) (padded no_id ids)) k))

  other-after : (y : ℕ) → c < y → all (λ x. ahead (key_words c ids) (group_words x)) (groups y) ≡ true
  unfolding groups_of ahead
  other-after y k =
      all-kept nonempty (λ x. ahead (key_words c ids) (group_words x)) (map (group_of g (constraint_at constraints y) y) (keys_of g (constraint_at constraints y)))
      (all-map (λ x. ahead (key_words c ids) (group_words x)) (group_of g (constraint_at constraints y) y) (keys_of g (constraint_at constraints y))
      (λ i. less-yes c y (ahead (padded no_id ids) (padded no_id i)) k))

  own-before : all (λ x. ahead (group_words x) (key_words c ids)) (keep nonempty (map make key-cut.before)) ≡ true
  unfolding ahead
  own-before =
      all-kept nonempty (λ x. ahead (group_words x) (key_words c ids)) (map make key-cut.before)
      (all-map-by (λ k. ahead k ids) (λ x. ahead (group_words x) (key_words c ids)) make key-cut.before
      (λ k e. less-same c c (ahead (padded no_id k) (padded no_id ids)) refl ∙ ahead-padded k ids (let m = short in omega arith) e) key-cut.lower)

  own-after : all (λ x. ahead (key_words c ids) (group_words x)) (keep nonempty (map make key-cut.after)) ≡ true
  unfolding ahead
  own-after =
      all-kept nonempty (λ x. ahead (key_words c ids) (group_words x)) (map make key-cut.after)
      (all-map-by (ahead ids) (λ x. ahead (key_words c ids) (group_words x)) make key-cut.after
      (λ k e. less-same c c (ahead (padded no_id ids) (padded no_id k)) refl ∙ ahead-padded ids k (let m = short in omega arith) e) key-cut.upper)

  whole-index : index_of g constraints
      ≡ (flat_map groups number-cut.before ++ keep nonempty (map make key-cut.before))
      ++ (keep nonempty (make ids ∷ []) ++ (keep nonempty (map make key-cut.after) ++ flat_map groups number-cut.after))
  unfolding index_of flat_map
  whole-index =
      ap (flat_map groups) number-cut.whole
      ∙ flat-append groups number-cut.before (c ∷ number-cut.after)
      ∙ ap (λ l. flat_map groups number-cut.before ++ (l ++ flat_map groups number-cut.after)) own-groups
      ∙ simp append_assoc

  pub key-around : Around g constraints c ids
  key-around = record {
    before = flat_map groups number-cut.before ++ keep nonempty (map make key-cut.before);
    after = keep nonempty (map make key-cut.after) ++ flat_map groups number-cut.after;
    whole = whole-index;
    lower =
        all-appended (λ x. ahead (group_words x) (key_words c ids)) (flat_map groups number-cut.before) (keep nonempty (map make key-cut.before))
        (all-flat-by (λ y. ltb y c) (λ x. ahead (group_words x) (key_words c ids)) groups number-cut.before (λ y k. other-before y (ltb-true y c k)) number-cut.lower)
        own-before;
    upper =
        all-appended (λ x. ahead (key_words c ids) (group_words x)) (keep nonempty (map make key-cut.after)) (flat_map groups number-cut.after)
        own-after
        (all-flat-by (λ y. ltb c y) (λ x. ahead (key_words c ids) (group_words x)) groups number-cut.after (λ y k. other-after y (ltb-true c y k)) number-cut.upper);
  }
