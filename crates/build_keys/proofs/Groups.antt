-- The keys that the walk goes through, with their lists, are those of the rules. Assumes nothing.
use native.Mathlib.Omega.{arith}
use native.Mathlib.Decide.{dec_le}
use mathlib.Core.Path.{◌≡◌, refl, sym, ap, ◌∙◌, fun_ext}
use mathlib.Core.Bool.{Bool, true, cond, not, ◌&&◌}
use mathlib.Core.List.{List, [], ◌∷◌, ◌++◌, map, flat_map, append_assoc, append-nil, map-map}
use Prim.Native.Nat.{ℕ, suc, ◌≤◌}
use lib.Dec.{eqb, leb, ltb}
use lib.ListN.{length}
use borrow.Author.Tests.{le-leb, lt-leb, le-ltb, lt-ltb, ne_eqb}
use Rattle.rules.specs.Lists.{all, keep, choices}
use Rattle.rules.specs.Store.{labels_of}
use Rattle.rules.specs.Graph.{Graph, neighbours, labelled}
use Rattle.rules.specs.Index.{Group, keys_of, list_of, satisfies, directions_of, entries_of, groups_of}
use Rattle.rules.specs.declared.Constraint.{Constraint}
use Rattle.laws.specs.Keep.{keep-most, keep-mapped, keep-keep, keep-whole, keep-flat}
use Rattle.laws.specs.Map.{map-flat, flat-nil}
use Rattle.build_groups.specs.Keyed.{Keyed, keyed_from}
use Rattle.build_keys.proofs.Going.{keyed-short, keyed-on}

-- ---- keys and lists
module _ (nb : ℕ → ℕ → Bool) (lab : ℕ → List ℕ) (t : ℕ) where
  -- the key that goes on with c, and its list
  abbrev pub onward : List ℕ → List ℕ → List ℕ → Keyed
  onward key list c = record { key = key ++ c; list = keep (λ v. all (λ u. nb u v) c) list }

  abbrev pub long : Keyed → Bool
  long x = ltb t (length x.list)

  one-more : (key list : List ℕ) (u : ℕ) (c : List ℕ) → onward key list (u ∷ c) ≡ onward (key ++ u ∷ []) (keep (nb u) list) c
  unfolding all
  one-more key list u c =
      ap (λ k. record { key = k; list = keep (λ v. nb u v && all (λ u. nb u v) c) list }) (sym (append_assoc key (u ∷ []) c))
      ∙ ap (λ l. record { key = (key ++ u ∷ []) ++ c; list = l }) (sym (keep-keep (λ v. all (λ u. nb u v) c) (nb u) list))

  here : (key list : List ℕ) → keyed_from nb lab t [] key list ≡ cond (ltb t (length list)) (record { key = key; list = list } ∷ []) [] ++ []
  unfolding keyed_from
  here key list = sym (append-nil (cond (ltb t (length list)) (record { key = key; list = list } ∷ []) []))

  -- one node more, whether or not the list is too short
  pub keyed-flat : (s : ℕ) (labels key list : List ℕ)
      → keyed_from nb lab t (s ∷ labels) key list ≡ flat_map (λ u. keyed_from nb lab t labels (key ++ u ∷ []) (keep (nb u) list)) (lab s)
  keyed-flat s labels key list = go (dec_le (length list) t)
    where
      on : ℕ → List Keyed
      on u = keyed_from nb lab t labels (key ++ u ∷ []) (keep (nb u) list)

      short : length list ≤ t → (u : ℕ) → [] ≡ on u
      short h u = sym (keyed-short nb lab t labels (key ++ u ∷ []) (keep (nb u) list) (let m = keep-most (nb u) list in omega arith))

      go : Dec (length list ≤ t) → keyed_from nb lab t (s ∷ labels) key list ≡ flat_map on (lab s)
      go (yes h) = keyed-short nb lab t (s ∷ labels) key list h ∙ sym (flat-nil (lab s)) ∙ ap (λ f. flat_map f (lab s)) (fun_ext (λ u. short h u))
      go (no h) = keyed-on nb lab t s labels key list (omega arith)

  pub keyed-all : (labels key list : List ℕ) → keyed_from nb lab t labels key list ≡ keep long (map (onward key list) (choices (map lab labels)))
  unfolding choices keep all
  keyed-all [] key list = here key list ∙ ap (λ x. cond (long x) (x ∷ []) [] ++ []) same
    where
      same : record { key = key; list = list } ≡ onward key list []
      same = ap (λ k. record { key = k; list = list }) (sym (append-nil key)) ∙ ap (λ l. record { key = key ++ []; list = l }) (sym (keep-whole (λ v. true) list (λ v h. refl)))
  keyed-all (s ∷ labels) key list = keyed-flat s labels key list ∙ sym (whole (λ k l. keyed-all labels k l))
    where
      on : ℕ → List Keyed
      on u = keyed_from nb lab t labels (key ++ u ∷ []) (keep (nb u) list)

      cs : List (List ℕ)
      cs = choices (map lab labels)

      step : ((k l : List ℕ) → keyed_from nb lab t labels k l ≡ keep long (map (onward k l) cs)) → (u : ℕ) → keep long (map (onward key list) (map (λ c. u ∷ c) cs)) ≡ on u
      step ih u =
          ap (keep long) (map-map (onward key list) (λ c. u ∷ c) cs ∙ ap (λ f. map f cs) (fun_ext (λ c. one-more key list u c)))
          ∙ sym (ih (key ++ u ∷ []) (keep (nb u) list))

      whole : ((k l : List ℕ) → keyed_from nb lab t labels k l ≡ keep long (map (onward k l) cs)) → keep long (map (onward key list) (flat_map (λ x. map (λ c. x ∷ c) cs) (lab s))) ≡ flat_map on (lab s)
      whole ih =
          ap (keep long) (map-flat (onward key list) (λ x. map (λ c. x ∷ c) cs) (lab s)) ∙ keep-flat long (λ x. map (onward key list) (map (λ c. x ∷ c) cs)) (lab s)
          ∙ ap (λ f. flat_map f (lab s)) (fun_ext (λ u. step ih u))

-- ---- groups
unfoldable pub to_group : Graph → ℕ → Keyed → Group
to_group g c x = record { constraint = c; key = x.key; entries = map (λ v. record { node = v; directions = directions_of g x.key v }) x.list }

-- the keys of a constraint with lists longer than t
unfoldable pub keyed_in : Graph → ℕ → Constraint → List Keyed
keyed_in g t d = keyed_from (λ u v. neighbours g v u) (labelled g) t (labels_of d) [] (labelled g d.label)

filled : {A : Type 0} (f : ℕ → A) (l : List ℕ) → not (eqb (length (map f l)) 0) ≡ ltb 0 (length l)
filled f [] = refl
filled f (x ∷ l) = ap not (ne_eqb (suc (length (map f l))) 0 (λ e. omega arith)) ∙ sym (lt-ltb 0 (suc (length l)) (omega arith))

pub groups-of : (g : Graph) (d : Constraint) (c : ℕ) → groups_of g d c ≡ map (to_group g c) (keyed_in g 0 d)
unfolding groups_of keys_of entries_of list_of keyed_in to_group
groups-of g d c =
    let nb : ℕ → ℕ → Bool = λ u v. neighbours g v u in
    let keys = choices (map (labelled g) (labels_of d)) in
    let l = labelled g d.label in
    sym
    (ap (map (to_group g c)) (keyed-all nb (labelled g) 0 (labels_of d) [] l)
    ∙ keep-mapped (to_group g c) (long nb (labelled g) 0) (λ x. not (eqb (length x.entries) 0)) (λ x. filled (λ v. record { node = v; directions = directions_of g x.key v }) x.list) (map (onward nb (labelled g) 0 [] l) keys)
    ∙ ap (keep (λ x. not (eqb (length x.entries) 0))) (map-map (to_group g c) (onward nb (labelled g) 0 [] l) keys))

-- ---- no list above N
none-above : {A : Type 0} (f : A → Keyed) (n : ℕ) (xs : List A) → all (λ x. leb (length (f x).list) n) xs ≡ eqb (length (keep (λ x. ltb n (length x.list)) (map f xs))) 0
unfolding all keep
none-above f n [] = refl
none-above f n (x ∷ xs) = go (dec_le (length (f x).list) n) (none-above f n xs)
  where
    rest : List Keyed
    rest = keep (λ x. ltb n (length x.list)) (map f xs)

    go : Dec (length (f x).list ≤ n) → all (λ x. leb (length (f x).list) n) xs ≡ eqb (length rest) 0
        → (leb (length (f x).list) n && all (λ x. leb (length (f x).list) n) xs) ≡ eqb (length (cond (ltb n (length (f x).list)) (f x ∷ []) [] ++ rest)) 0
    go (yes h) ih = rw (le-leb (length (f x).list) n h, le-ltb n (length (f x).list) h) ih
    go (no h) ih = rw (lt-leb (length (f x).list) n (omega arith), lt-ltb n (length (f x).list) (omega arith)) (sym (ne_eqb (suc (length rest)) 0 (λ e. omega arith)))

pub satisfies-keyed : (g : Graph) (d : Constraint) → satisfies g d ≡ eqb (length (keyed_in g d.most d)) 0
unfolding satisfies keys_of list_of keyed_in
satisfies-keyed g d =
    let nb : ℕ → ℕ → Bool = λ u v. neighbours g v u in
    let l = labelled g d.label in
    none-above (onward nb (labelled g) d.most [] l) d.most (choices (map (labelled g) (labels_of d)))
    ∙ sym (ap (λ x. eqb (length x) 0) (keyed-all nb (labelled g) d.most (labels_of d) [] l))
