-- What `<` answers of two pairs of numbers. Assumes nothing.
use Rattle.std.specs.Prelude.{◌≡◌, refl, Bool, true, false, cond, ◌||◌, ◌&&◌, ltb, eqb}
use Rattle.std.specs.Ordering.{nat_cmp, is_lt, is_some_and, partial_ordering_then}
use Rattle.std.specs.declared.cmp.Ordering.TheVariants.{Less, Equal, Greater}
use Rattle.std.specs.declared.option.Option.TheVariants.{Some}
use Prim.Native.Nat.{ℕ}
use Rattle.rules.specs.Lists.{less_then}

by-tests : (p q r s : Bool)
    → is_some_and is_lt (partial_ordering_then (Some (cond p Less (cond q Equal Greater))) (Some (cond r Less (cond s Equal Greater))))
    ≡ (p || q && r)
by-tests true q r s = refl
by-tests false true true s = refl
by-tests false true false true = refl
by-tests false true false false = refl
by-tests false false r s = refl

-- (a, b) comes before (x, y)
pub pair-before : (a b x y : ℕ) → is_some_and is_lt (partial_ordering_then (Some (nat_cmp a x)) (Some (nat_cmp b y))) ≡ less_then a x (ltb b y)
pair-before a b x y = by-tests (ltb a x) (eqb a x) (ltb b y) (eqb b y)
