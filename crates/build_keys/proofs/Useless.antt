-- A node without a neighbour of one of the labels is in no list of a whole key, so it may be left out before. Assumes nothing.
use mathlib.Core.Path.{◌≡◌, refl, sym, ap, ◌∙◌, fun_ext}
use mathlib.Core.Bool.{Bool, true, false, not, ◌&&◌, ◌||◌, or-true}
use mathlib.Core.List.{List, [], ◌∷◌, ◌++◌}
use Prim.Native.Nat.{ℕ}
use Rattle.rules.specs.Lists.{all, any, keep, has}
use Rattle.laws.specs.Map.{flat-same}
use Rattle.laws.specs.Keep.{keep-whole, keep-keep}
use Rattle.laws.specs.Any.{any-member}
use Rattle.build_neighbours.specs.Useful.{reaches}
use Rattle.build_groups.specs.Keyed.{keyed_from}
use Rattle.build_keys.proofs.Groups.{keyed-flat}

-- a test that is only asked where another holds
and-given : (a b : Bool) → (a && (b || not a)) ≡ (b && a)
and-given true true = refl
and-given true false = refl
and-given false true = refl
and-given false false = refl

module _ (joined : ℕ → ℕ → Bool) (labelled : ℕ → List ℕ) (t : ℕ) where
  kept-given : (p q : ℕ → Bool) (l : List ℕ) → keep p (keep q l) ≡ keep (λ v. q v || not (p v)) (keep p l)
  kept-given p q l = keep-keep p q l ∙ ap (λ f. keep f l) (fun_ext (λ v. sym (and-given (p v) (q v)))) ∙ sym (keep-keep (λ v. q v || not (p v)) p l)

  -- any test that all useful nodes pass may be made
  kept-useful : (labels key list : List ℕ) (q : ℕ → Bool) → ((v : ℕ) → reaches joined labelled labels v ≡ true → q v ≡ true)
      → keyed_from joined labelled t labels key (keep q list) ≡ keyed_from joined labelled t labels key list
  unfolding reaches all
  kept-useful [] key list q h = ap (keyed_from joined labelled t [] key) (keep-whole q list (λ v k. h v refl))
  kept-useful (s ∷ labels) key list q h =
      keyed-flat joined labelled t s labels key (keep q list)
      ∙ flat-same (λ u. keyed_from joined labelled t labels (key ++ u ∷ []) (keep (joined u) (keep q list))) (λ u. keyed_from joined labelled t labels (key ++ u ∷ []) (keep (joined u) list)) (labelled s)
      (λ u k. ap (keyed_from joined labelled t labels (key ++ u ∷ [])) (kept-given (joined u) q list) ∙ kept-useful labels (key ++ u ∷ []) (keep (joined u) list) (λ v. q v || not (joined u v)) (λ v r. still u k v (joined u v) refl r))
      ∙ sym (keyed-flat joined labelled t s labels key list)
    where
      still : (u : ℕ) → has u (labelled s) ≡ true → (v : ℕ) (b : Bool) → joined u v ≡ b → all (λ s. any (λ u. joined u v) (labelled s)) labels ≡ true → (q v || not b) ≡ true
      still u k v true e r = ap (λ b. b || false) (h v (rw (any-member (λ u. joined u v) u (labelled s) k e) r))
      still u k v false e r = or-true (q v)

  pub keyed-useful : (labels key list : List ℕ) → keyed_from joined labelled t labels key list ≡ keyed_from joined labelled t labels key (keep (reaches joined labelled labels) list)
  keyed-useful labels key list = sym (kept-useful labels key list (reaches joined labelled labels) (λ v h. h))
