-- What a node's ways by a constraint, and an edge's, come to: the best slots. Assumes nothing.
use mathlib.Core.Path.{◌≡◌, refl, sym, ap, ◌∙◌}
use mathlib.Core.Bool.{Bool, true, false, true≢false, cond, not, ◌&&◌, ◌||◌, or-false, or_assoc, and-true, and-false}
use mathlib.Core.List.{List, [], ◌∷◌, map, map-map}
use mathlib.Core.Option.{Option, some, none}
use Prim.Native.Nat.{ℕ, suc, ◌≤◌, ◌<◌}
use native.Mathlib.Omega.{arith}
use lib.Dec.{eqb, ltb}
use borrow.Author.Tests.{eqb-true, eq-eqb, ne_eqb, ltb-true, not-true}
use Rattle.rules.specs.Lists.{range, all, any, keep, has, choices}
use Rattle.laws.specs.Strict.{From}
use Rattle.rules.specs.Store.{labels_of, label_after, constraint_alone}
use Rattle.rules.specs.Pattern.{size_of, pattern_label, joined}
use Rattle.rules.specs.Plan.{figure_of, covered, covered_with, ways_by, smallest, row_of}
use Rattle.rules.specs.declared.Row.{Row}
use Rattle.rules.specs.declared.Constraint.{Constraint}
use Rattle.laws.specs.Cases.{first-holds, second-holds}
use Rattle.laws.specs.Least.{least, node_only, each-smallest, GoodIf, least-good}
use Rattle.laws.specs.Choices.{narrow, Once, keep-has, strict-once}
use Rattle.laws.specs.Keep.{has-keep, keep-from}
use Rattle.laws.specs.Range.{range-has, range-from}
use Rattle.laws.specs.All.{all-keep, all-map, all-member}
use Rattle.laws.specs.Constraints.{most-positive, most-small}
use Rattle.std.specs.Prelude.{Some, None, IfSome, is_some}
use Rattle.std.specs.Prelude as code
use Rattle.plan_ways.specs.Ways.{way_in, taken, slot_of, way_by, suited, Small, narrowed, asked, one_suited, Inside, slots}
use Rattle.plan_ways.proofs.Slots.{made, slots-way, second-zero, third-zero, orders}

-- ---- the covered neighbours with a label
module _ (b figures : List ℕ) (u : ℕ) where
  pub has-covered : (l o : ℕ) → o < size_of b → has o (covered_with b figures u l) ≡ suited b figures u l o
  unfolding covered_with
  has-covered l o h = has-keep (suited b figures u l) o (range 0 (size_of b)) ∙ rw (range-has o 0 (size_of b) (omega arith) (omega arith)) (and-true (suited b figures u l o))

  has-figure : (w l : ℕ) → suited b figures u l w ≡ true → not (eqb (figure_of figures w) 0) ≡ true
  unfolding covered
  has-figure w l h = first-holds (not (eqb (figure_of figures w) 0)) (joined b u w) (first-holds _ (eqb (pattern_label b w) l) h)

  pub all-covered : (l : ℕ) → all (λ w. not (eqb (figure_of figures w) 0)) (covered_with b figures u l) ≡ true
  unfolding covered_with
  all-covered l = all-keep (suited b figures u l) (λ w. not (eqb (figure_of figures w) 0)) (range 0 (size_of b)) (λ w h. has-figure w l h)

  covered-from : (l : ℕ) → From 0 (covered_with b figures u l)
  unfolding covered_with
  covered-from l = keep-from (suited b figures u l) 0 (range 0 (size_of b)) (range-from 0 (size_of b))

-- ---- the ways of a node by a constraint
-- the best slots make the smallest of the ways that choose from these lists
pub slots-smallest : (f : ℕ → ℕ) (own : Row) (h : ℕ → List ℕ) → ((l : ℕ) → all (λ w. not (eqb (f w) 0)) (h l) ≡ true)
    → (d : Constraint) → constraint_alone d ≡ true
    → way_by own d.most (slot_of d.first (least f (h d.first))) (slot_of d.second (least f (h d.second))) (slot_of d.third (least f (h d.third)))
    ≡ smallest (map (made f own d.most) (choices (map h (labels_of d))))
unfolding row_of
slots-smallest f own h good d alone =
    slots-way f own d.most h good d alone
    ∙ sym (each-smallest f (map h (labels_of d)) (all-map (all (λ w. not (eqb (f w) 0))) h (labels_of d) good) d.most (most-positive d alone) (made f own d.most) (λ c. refl))

-- where the label differs there is no way
pub label-differs : (b figures : List ℕ) (u label : ℕ) (d : Constraint) (mk : List ℕ → Row) (other : code.Option ℕ) → label ≡ pattern_label b u → (label ≡ d.label → ⊥)
    → none ≡ smallest (map mk (asked other (ways_by b figures u d)))
unfolding ways_by smallest keep
label-differs b figures u label d mk other told n = rw (ne_eqb (pattern_label b u) d.label (λ e. n (told ∙ e))) (go other)
  where
    go : (other : code.Option ℕ) → none ≡ smallest (map mk (asked other []))
    go None = refl
    go (Some o) = refl

label-agrees : (b figures : List ℕ) (u label : ℕ) (d : Constraint) → label ≡ pattern_label b u → label ≡ d.label → ways_by b figures u d ≡ choices (map (covered_with b figures u) (labels_of d))
unfolding ways_by
label-agrees b figures u label d told e = rw (eq-eqb (pattern_label b u) d.label (sym told ∙ e))

after-less : (a b : ℕ) → label_after a b ≡ true → eqb b 0 ≡ false → a < b
unfolding label_after
after-less a b h e = ltb-true a b (second-holds (not (eqb a 0)) (ltb a b) (rw e at h))

-- ---- the ways of an edge by a constraint and a fetched end: the other end is fixed
labels-from : (d : Constraint) → constraint_alone d ≡ true → From 0 (labels_of d)
unfolding labels_of keep From
labels-from d alone = go (eqb d.first 0) refl (eqb d.second 0) refl (eqb d.third 0) refl (second-zero d alone) (third-zero d alone) (orders d alone)
  where
    go : (x : Bool) → eqb d.first 0 ≡ x → (y : Bool) → eqb d.second 0 ≡ y → (z : Bool) → eqb d.third 0 ≡ z
        → (eqb d.first 0 ≡ true → eqb d.second 0 ≡ true) → (eqb d.second 0 ≡ true → eqb d.third 0 ≡ true)
        → (label_after d.first d.second && label_after d.second d.third) ≡ true
        → From 0 (labels_of d)
    go true ex y ey z ez s t o = rw (ex, s ex, t (s ex)) tt
    go false ex true ey z ez s t o = rw (ex, ey, t ey) (omega arith, tt)
    go false ex false ey true ez s t o =
        let h = after-less d.first d.second (first-holds _ (label_after d.second d.third) o) ey in
        rw (ex, ey, ez) (omega arith, (omega arith, tt))
    go false ex false ey false ez s t o =
        let h = after-less d.first d.second (first-holds _ (label_after d.second d.third) o) ey in
        let k = after-less d.second d.third (second-holds (label_after d.first d.second) _ o) ez in
        rw (ex, ey, ez) (omega arith, (omega arith, (omega arith, tt)))

module _ (b figures : List ℕ) (u o : ℕ) (here : o < size_of b) where
  -- o is among the nodes for label l only if it bears that label
  bears : (l : ℕ) → has o (covered_with b figures u l) ≡ true → pattern_label b o ≡ l
  bears l h = eqb-true (pattern_label b o) l (second-holds (covered figures o && joined b u o) (eqb (pattern_label b o) l) (sym (has-covered b figures u l o here) ∙ h))

  none-later : (n : ℕ) (ls : List ℕ) → From n ls → pattern_label b o < n → any (has o) (map (covered_with b figures u) ls) ≡ false
  unfolding any From
  none-later n [] f h = refl
  none-later n (l ∷ ls) f h =
      let k = f.0 in
      rw (has-covered b figures u l o here, ne_eqb (pattern_label b o) l (λ e. omega arith))
      (rw (and-false (covered figures o && joined b u o)) (none-later (suc l) ls f.1 (omega arith)))

  pub once-there : (n : ℕ) (ls : List ℕ) → From n ls → Once o (map (covered_with b figures u) ls)
  unfolding Once From
  once-there n [] f = tt
  once-there n (l ∷ ls) f = (
    λ h. (let e = bears l h in none-later (suc l) ls f.1 (omega arith), strict-once 0 (covered_with b figures u l) o (covered-from b figures u l) h),
    once-there (suc l) ls f.1,
  )

  -- one of the labels of S is o's
  pub any-label : (d : Constraint) → not (eqb (pattern_label b o) 0) ≡ true
      → any (has o) (map (covered_with b figures u) (labels_of d)) ≡ (suited b figures u d.first o || suited b figures u d.second o || suited b figures u d.third o)
  unfolding labels_of keep any
  any-label d nz = go (eqb d.first 0) refl (eqb d.second 0) refl (eqb d.third 0) refl
    where
      at-zero : (l : ℕ) → eqb l 0 ≡ true → suited b figures u l o ≡ false
      at-zero l e = rw (eqb-true l 0 e, not-true (eqb (pattern_label b o) 0) nz) (and-false (covered figures o && joined b u o))

      at-other : (l : ℕ) → has o (covered_with b figures u l) ≡ suited b figures u l o
      at-other l = has-covered b figures u l o here

      go : (x : Bool) → eqb d.first 0 ≡ x → (y : Bool) → eqb d.second 0 ≡ y → (z : Bool) → eqb d.third 0 ≡ z
          → any (has o) (map (covered_with b figures u) (labels_of d)) ≡ (suited b figures u d.first o || suited b figures u d.second o || suited b figures u d.third o)
      go true ex true ey true ez = rw (ex, ey, ez, at-zero d.first ex, at-zero d.second ey, at-zero d.third ez)
      go true ex true ey false ez = rw (ex, ey, ez, at-zero d.first ex, at-zero d.second ey, at-other d.third) (or-false (suited b figures u d.third o))
      go true ex false ey true ez = rw (ex, ey, ez, at-zero d.first ex, at-zero d.third ez, at-other d.second)
      go true ex false ey false ez =
          rw (ex, ey, ez, at-zero d.first ex, at-other d.second, at-other d.third)
          (ap (λ t. suited b figures u d.second o || t) (or-false (suited b figures u d.third o)))
      go false ex true ey true ez =
          rw (ex, ey, ez, at-zero d.second ey, at-zero d.third ez, at-other d.first)
          (ap (λ t. t) (sym (or-false (suited b figures u d.first o || false))))
      go false ex true ey false ez =
          rw (ex, ey, ez, at-zero d.second ey, at-other d.first, at-other d.third)
          (ap (λ t. suited b figures u d.first o || t) (or-false (suited b figures u d.third o)) ∙ ap (λ t. t || suited b figures u d.third o) (sym (or-false (suited b figures u d.first o))))
      go false ex false ey true ez =
          rw (ex, ey, ez, at-zero d.third ez, at-other d.first, at-other d.second)
          (ap (λ t. suited b figures u d.first o || t) (or-false (suited b figures u d.second o)) ∙ sym (or-false (suited b figures u d.first o || suited b figures u d.second o)))
      go false ex false ey false ez =
          rw (ex, ey, ez, at-other d.first, at-other d.second, at-other d.third)
          (ap (λ t. suited b figures u d.first o || (suited b figures u d.second o || t)) (or-false (suited b figures u d.third o))
          ∙ sym (or_assoc (suited b figures u d.first o) (suited b figures u d.second o) (suited b figures u d.third o)))

member-all : (f : ℕ → ℕ) (o : ℕ) (xs : List ℕ) → all (λ w. not (eqb (f w) 0)) xs ≡ true → has o xs ≡ true → all (λ w. not (eqb (f w) 0)) (o ∷ []) ≡ true
unfolding all
member-all f o xs h e = rw (all-member (λ w. not (eqb (f w) 0)) o xs h e)

-- a list in which o is fixed has positive figures too
narrow-positive : (f : ℕ → ℕ) (o : ℕ) (xs : List ℕ) → all (λ w. not (eqb (f w) 0)) xs ≡ true → all (λ w. not (eqb (f w) 0)) (narrow o xs) ≡ true
narrow-positive f o xs h = go (has o xs) refl
  where
    go : (t : Bool) → has o xs ≡ t → all (λ w. not (eqb (f w) 0)) (cond t (o ∷ []) xs) ≡ true
    go true e = member-all f o xs h e
    go false e = h

-- the ways of an edge, where its fetched end u has the constraint's label and o is the other end
module _ (b figures : List ℕ) (u o : ℕ) (here : o < size_of b) (d : Constraint) (alone : constraint_alone d ≡ true) where
  ends-kept : keep (has o) (choices (map (covered_with b figures u) (labels_of d)))
      ≡ cond (any (has o) (map (covered_with b figures u) (labels_of d))) (choices (map (λ l. narrow o (covered_with b figures u l)) (labels_of d))) []
  ends-kept =
      keep-has o (map (covered_with b figures u) (labels_of d)) (once-there b figures u o here 0 (labels_of d) (labels-from d alone))
      ∙ ap (λ ls. cond (any (has o) (map (covered_with b figures u) (labels_of d))) (choices ls) []) (map-map (narrow o) (covered_with b figures u) (labels_of d))

  -- the other end is among none of the lists
  pub end-missing : not (eqb (pattern_label b o) 0) ≡ true → one_suited b figures u d (Some o) ≡ false → keep (has o) (choices (map (covered_with b figures u) (labels_of d))) ≡ []
  end-missing nz h = ends-kept ∙ rw (any-label b figures u o here d nz ∙ h)

  pub end-kept : not (eqb (pattern_label b o) 0) ≡ true → one_suited b figures u d (Some o) ≡ true
      → keep (has o) (choices (map (covered_with b figures u) (labels_of d))) ≡ choices (map (λ l. narrow o (covered_with b figures u l)) (labels_of d))
  end-kept nz h = ends-kept ∙ rw (any-label b figures u o here d nz ∙ h)

-- ---- the ways of a right constraint whose label u has
module _ (b figures : List ℕ) (u label : ℕ) (d : Constraint) (alone : constraint_alone d ≡ true) (told : label ≡ pattern_label b u) (agrees : label ≡ d.label)
    (named : (o : ℕ) → o < size_of b → not (eqb (pattern_label b o) 0) ≡ true) where
  pub ways-missing : (mk : List ℕ → Row) (other : code.Option ℕ) → Inside b other → one_suited b figures u d other ≡ false → none ≡ smallest (map mk (asked other (ways_by b figures u d)))
  unfolding smallest
  ways-missing mk None i h = absurd (true≢false h)
  ways-missing mk (Some o) i h = rw (label-agrees b figures u label d told agrees, end-missing b figures u o i d alone (named o i) h)

  pub ways-made : (own : Row) (other : code.Option ℕ) → Inside b other → one_suited b figures u d other ≡ true
      → slots b figures u d own other ≡ smallest (map (made (figure_of figures) own d.most) (asked other (ways_by b figures u d)))
  unfolding slots
  ways-made own None i h =
      rw (label-agrees b figures u label d told agrees) (slots-smallest (figure_of figures) own (covered_with b figures u) (all-covered b figures u) d alone)
  ways-made own (Some o) i h =
      rw (label-agrees b figures u label d told agrees, end-kept b figures u o i d alone (named o i) h)
      (slots-smallest (figure_of figures) own (λ l. narrow o (covered_with b figures u l)) (λ l. narrow-positive (figure_of figures) o (covered_with b figures u l) (all-covered b figures u l)) d alone)

-- ---- a slot
pub narrowed-positive : (b figures : List ℕ) (u l : ℕ) (other : code.Option ℕ) → all (λ w. not (eqb (figure_of figures w) 0)) (narrowed other (covered_with b figures u l)) ≡ true
narrowed-positive b figures u l None = all-covered b figures u l
narrowed-positive b figures u l (Some o) = narrow-positive (figure_of figures) o (covered_with b figures u l) (all-covered b figures u l)

-- its figure is small
taken-small : (f : ℕ → ℕ) (o : Option Row) → ((w : ℕ) → f w ≤ 65536) → GoodIf f o → IfSome (taken o) (λ s. s.figure ≤ 65536)
unfolding taken
taken-small f none small g = tt
taken-small f (some r) small g = rw g.0 (small r.number)

pub slot-small : (b figures : List ℕ) (u label : ℕ) (other : code.Option ℕ) → Small figures → IfSome (slot_of label (least (figure_of figures) (narrowed other (covered_with b figures u label)))) (λ s. s.figure ≤ 65536)
unfolding slot_of
slot-small b figures u label other small = go (eqb label 0)
  where
    best : Option Row
    best = least (figure_of figures) (narrowed other (covered_with b figures u label))

    go : (t : Bool) → IfSome (cond t (Some (record { node = 255; figure = 1 })) (taken best)) (λ s. s.figure ≤ 65536)
    go true = omega arith
    go false = taken-small (figure_of figures) best small.most (least-good (figure_of figures) (narrowed other (covered_with b figures u label)) (narrowed-positive b figures u label other))

-- ---- the best node where o must be chosen if it suits
module _ (b figures : List ℕ) (u label o : ℕ) (here : o < size_of b) (r : code.Option Row) (told : way_in r ≡ smallest (cond (suited b figures u label o) (node_only (figure_of figures) o ∷ []) [])) where
  suits-told : (r : code.Option Row) → (t : Bool) → way_in r ≡ smallest (cond t (node_only (figure_of figures) o ∷ []) []) → is_some r ≡ t
  unfolding smallest
  suits-told None true e = absurd (cc)
  suits-told None false e = refl
  suits-told (Some x) true e = refl
  suits-told (Some x) false e = absurd (cc)

  pub fixed-here : is_some r ≡ true → way_in r ≡ least (figure_of figures) (narrowed (Some o) (covered_with b figures u label))
  fixed-here h = let s = suits-told r (suited b figures u label o) told in told ∙ rw (has-covered b figures u label o here, sym s ∙ h)

  pub fixed-missing : is_some r ≡ false → narrowed (Some o) (covered_with b figures u label) ≡ covered_with b figures u label
  fixed-missing h = let s = suits-told r (suited b figures u label o) told in rw (has-covered b figures u label o here, sym s ∙ h)

pub most-told : (k d : Constraint) → k ≡ d → constraint_alone d ≡ true → k.most ≤ 65535
most-told k d e alone = rw e (most-small d alone)
