-- Keys compare as the rules compare a group with a key. Assumes nothing.
use Rattle.std.specs.Prelude.{◌≡◌, Bool, true, false, cond, ℕ, List, ◌&&◌, ◌||◌, eqb, ltb, Option, Some}
use Rattle.std.proofs.Common.{Ordering, Less, Equal, Greater, refl, ap, ◌∙◌}
use Rattle.std.proofs.Math.Bool.{and_assoc}
use Rattle.std.specs.Ordering.{partial_lt, nat_cmp, partial_ordering_then, is_some_and, is_lt}
use Rattle.rules.specs.Lists.{less_then}
use Rattle.rules.specs.Listing.{precedes, equals}
use Rattle.rules.specs.declared.Key.{Key}
use Rattle.rules.specs.contracts.KeyPartialOrd as order
use Rattle.store_lookup.specs.Keys.{group_key}

less-word : (x y : ℕ) → is_some_and is_lt (Some (nat_cmp x y)) ≡ ltb x y
less-word x y = go (ltb x y) (eqb x y)
  where
    go : (s t : Bool) → is_lt (cond s Less (cond t Equal Greater)) ≡ s
    go true t = refl
    go false true = refl
    go false false = refl

less-words : (x y : ℕ) (o : Option Ordering) → is_some_and is_lt (partial_ordering_then (Some (nat_cmp x y)) o) ≡ less_then x y (is_some_and is_lt o)
less-words x y o = go (ltb x y) (eqb x y)
  where
    go : (s t : Bool) → is_some_and is_lt (partial_ordering_then (Some (cond s Less (cond t Equal Greater))) o) ≡ (s || t && is_some_and is_lt o)
    go true t = refl
    go false true = refl
    go false false = refl

-- `<` on keys goes by their fields in order
pub key-less : (a b : Key) → partial_lt (order.TheImpl.partial_cmp-value).it a b
    ≡ less_then a.constraint b.constraint (less_then a.first b.first (less_then a.second b.second (ltb a.third b.third)))
key-less a b =
    less-words a.constraint b.constraint _
    ∙ ap (less_then a.constraint b.constraint) (less-words a.first b.first _
    ∙ ap (less_then a.first b.first) (less-words a.second b.second _ ∙ ap (less_then a.second b.second) (less-word a.third b.third)))

module _ (groups : List ℕ) (key k : Key) (i : ℕ) (r : Bool) (e : k ≡ group_key groups i) where
  pub told-equal : r ≡ (eqb k.constraint key.constraint && (eqb k.first key.first && (eqb k.second key.second && eqb k.third key.third))) → r ≡ equals groups key i
  unfolding group_key equals
  told-equal q = simp and_assoc (rw e at q)

  pub told-less : r ≡ partial_lt (order.TheImpl.partial_cmp-value).it k key → r ≡ precedes groups key i
  unfolding group_key precedes
  told-less q = rw e at (q ∙ key-less k key)
