-- Three slots, one for each label of S with none for a label 0, make the smallest way of a constraint. Assumes nothing.
use mathlib.Core.Path.{◌≡◌, refl, ap}
use mathlib.Core.Bool.{Bool, true, false, not, ◌&&◌, ◌||◌, false≢true}
use mathlib.Core.List.{List, [], ◌∷◌, map}
use mathlib.Core.Option.{Option, some, none}
use Prim.Native.Nat.{ℕ, ◌*◌}
use native.Mathlib.Nat.{mul-one, mul_assoc}
use lib.Dec.{eqb, ltb, leb}
use Rattle.rules.specs.Lists.{all, keep, product}
use Rattle.rules.specs.Store.{labels_of, label_after, constraint_alone}
use Rattle.rules.specs.Plan.{row_of}
use Rattle.rules.specs.declared.Row.{Row}
use Rattle.rules.specs.declared.Constraint.{Constraint}
use Rattle.laws.specs.Cases.{first-holds, second-holds}
use Rattle.laws.specs.Least.{least, via, least_each, GoodIf, least-good}
use Rattle.plan_ways.specs.Ways.{taken, slot_of, way_by}
use Rattle.std.specs.Prelude.{Some}
use Rattle.std.specs.Prelude as code
use Rattle.plan_ways.specs.declared.Chosen.{Chosen}

-- a slot that no label asks for
abbrev free : code.Option Chosen
free = Some (record { node = 255; figure = 1 })

module _ (f : ℕ → ℕ) (own : Row) (most : ℕ) where
  -- the row that chosen nodes make
  abbrev pub made : List ℕ → Row
  made chosen = row_of own.kind own.number own.fetched own.constraint chosen (most * product (map f chosen))

  -- the chosen nodes by three options, those of labels that are not 0
  abbrev one : Option Row → Option (List ℕ) → Option (List ℕ)
  one o rest = elim o [ none ↦ none | some r ↦ via (λ c. r.number ∷ c) rest ]

  none-asked : way_by own most free free free ≡ via made (some [])
  unfolding row_of product
  none-asked = ap (λ n. some (record { kind = own.kind; number = own.number; fetched = own.fetched; constraint = own.constraint; first = 255; second = 255; third = 255; figure = n })) (simp mul-one)

  one-asked : (o : Option Row) → GoodIf f o → way_by own most (taken o) free free ≡ via made (one o (some []))
  unfolding row_of product taken
  one-asked none g = refl
  one-asked (some r) g =
      ap (λ n. some (record { kind = own.kind; number = own.number; fetched = own.fetched; constraint = own.constraint; first = r.number; second = 255; third = 255; figure = n }))
      (rw g.0 (simp mul-one))

  two-asked : (o p : Option Row) → GoodIf f o → GoodIf f p → way_by own most (taken o) (taken p) free ≡ via made (one o (one p (some [])))
  unfolding row_of product taken
  two-asked none p g h = refl
  two-asked (some r) none g h = refl
  two-asked (some r) (some q) g h =
      ap (λ n. some (record { kind = own.kind; number = own.number; fetched = own.fetched; constraint = own.constraint; first = r.number; second = q.number; third = 255; figure = n }))
      (rw (g.0, h.0) (simp (mul-one, mul_assoc)))

  three-asked : (o p s : Option Row) → GoodIf f o → GoodIf f p → GoodIf f s
      → way_by own most (taken o) (taken p) (taken s) ≡ via made (one o (one p (one s (some []))))
  unfolding row_of product taken
  three-asked none p s g h k = refl
  three-asked (some r) none s g h k = refl
  three-asked (some r) (some q) none g h k = refl
  three-asked (some r) (some q) (some t) g h k =
      ap (λ n. some (record { kind = own.kind; number = own.number; fetched = own.fetched; constraint = own.constraint; first = r.number; second = q.number; third = t.number; figure = n }))
      (rw (g.0, h.0, k.0) (simp (mul-one, mul_assoc)))

-- zeros come last in S
after-zero : (a b : ℕ) → label_after a b ≡ true → eqb a 0 ≡ true → eqb b 0 ≡ true
unfolding label_after
after-zero a b h e = go (eqb b 0) (eqb a 0) h e
  where
    go : (x y : Bool) → (x || not y && ltb a b) ≡ true → y ≡ true → x ≡ true
    go true y h e = refl
    go false true h e = h
    go false false h e = absurd (false≢true e)

module _ (d : Constraint) (alone : constraint_alone d ≡ true) where
  pub orders : (label_after d.first d.second && label_after d.second d.third) ≡ true
  unfolding constraint_alone
  orders =
      let o = label_after d.first d.second && label_after d.second d.third in
      let l = o && not (eqb d.label 0) in
      let n = l && leb 1 d.most in
      first-holds o _ (first-holds l _ (first-holds n _ alone))

  pub second-zero : eqb d.first 0 ≡ true → eqb d.second 0 ≡ true
  second-zero e = after-zero d.first d.second (first-holds _ (label_after d.second d.third) orders) e

  pub third-zero : eqb d.second 0 ≡ true → eqb d.third 0 ≡ true
  third-zero e = after-zero d.second d.third (second-holds (label_after d.first d.second) _ orders) e

-- the slots of a right constraint's labels give the best node of each list
pub slots-way : (f : ℕ → ℕ) (own : Row) (most : ℕ) (h : ℕ → List ℕ) → ((l : ℕ) → all (λ w. not (eqb (f w) 0)) (h l) ≡ true)
    → (d : Constraint) → constraint_alone d ≡ true
    → way_by own most (slot_of d.first (least f (h d.first))) (slot_of d.second (least f (h d.second))) (slot_of d.third (least f (h d.third)))
    ≡ via (made f own most) (least_each f (map h (labels_of d)))
unfolding slot_of labels_of keep least_each constraint_alone
slots-way f own most h good d alone = go (eqb d.first 0) refl (eqb d.second 0) refl (eqb d.third 0) refl (second-zero d alone) (third-zero d alone)
  where
    go : (x : Bool) → eqb d.first 0 ≡ x → (y : Bool) → eqb d.second 0 ≡ y → (z : Bool) → eqb d.third 0 ≡ z
        → (eqb d.first 0 ≡ true → eqb d.second 0 ≡ true) → (eqb d.second 0 ≡ true → eqb d.third 0 ≡ true)
        → way_by own most (slot_of d.first (least f (h d.first))) (slot_of d.second (least f (h d.second))) (slot_of d.third (least f (h d.third)))
        ≡ via (made f own most) (least_each f (map h (labels_of d)))
    go true ex y ey z ez s t =
        rw (ex, s ex, t (s ex)) (none-asked f own most)
    go false ex true ey z ez s t = rw (ex, ey, t ey) (one-asked f own most (least f (h d.first)) (least-good f (h d.first) (good d.first)))
    go false ex false ey true ez s t =
        rw (ex, ey, ez)
        (two-asked f own most (least f (h d.first)) (least f (h d.second)) (least-good f (h d.first) (good d.first)) (least-good f (h d.second) (good d.second)))
    go false ex false ey false ez s t =
        rw (ex, ey, ez)
        (three-asked f own most (least f (h d.first)) (least f (h d.second)) (least f (h d.third))
        (least-good f (h d.first) (good d.first)) (least-good f (h d.second) (good d.second)) (least-good f (h d.third) (good d.third)))
