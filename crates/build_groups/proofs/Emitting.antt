-- What `emit` gives in each of its cases. Assumes nothing.
use native.Mathlib.Omega.{arith}
use mathlib.Core.Path.{◌≡◌, refl, sym, ap, ◌∙◌}
use mathlib.Core.Bool.{Bool, true, false, not, ◌&&◌}
use mathlib.Core.List.{List}
use Prim.Native.Nat.{ℕ, ◌+◌, ◌*◌, ◌≤◌, ◌<◌}
use lib.Dec.{ltb, leb}
use lib.ListN.{length}
use borrow.Author.Tests.{not-true, not-false, ltb-true, leb-true}
use Rattle.rules.specs.Words.{part, over}
use Rattle.rules.specs.Answers.{same}
use Rattle.laws.specs.Cases.{first-holds, second-holds}
use Rattle.build_groups.specs.Emit.{group_record, list_records, Progress, Output, output_of, within, counted, written, agrees, emit_by, emit, Lies, Fits, group_place, entry_place}
use Rattle.build_groups.specs.declared.Deed.{Deed}
use Rattle.build_groups.specs.declared.Deed.TheVariants.{Count, Write, Compare}
use Rattle.build_groups.specs.declared.Purpose.{Purpose}

-- what being within the bounds says
module _ (task : Purpose) (t : Progress) (n : ℕ) (r : Bool) (q : r ≡ within task t n) (inside : not r ≡ false) where
  pub bounds : within task t n ≡ true
  bounds = sym q ∙ not-false r inside

  pub group-within : t.groups < task.groups
  unfolding within
  group-within = ltb-true _ _ (first-holds (ltb t.groups task.groups) (leb (t.entries + n) task.entries) bounds)

  pub entries-within : t.entries + n ≤ task.entries
  unfolding within
  entries-within = leb-true _ _ (second-holds (ltb t.groups task.groups) (leb (t.entries + n) task.entries) bounds)

  pub fits : (size : ℕ) → n ≤ 65536 → Lies task size → Fits task t n size
  fits size short lies =
      let g = group-within in
      let e = entries-within in
      record { short = short; group = omega (arith, lies.table); list = omega (arith, lies.lists) }

module _ (task : Purpose) (words store : List ℕ) (c : ℕ) (ids list : List ℕ) (t : Progress) (room : List ℕ) where
  by : Bool → Bool → Deed → Output
  by = emit_by task words store (output_of t room) c ids list

  shape : emit task words store (output_of t room) c ids list ≡ by t.stopped (within task t (length list)) task.deed
  unfolding emit by
  shape = refl

  when : (a b : Bool) (d : Deed) → t.stopped ≡ a → within task t (length list) ≡ b → task.deed ≡ d → emit task words store (output_of t room) c ids list ≡ by a b d
  when a b d p q r = shape ∙ cc

  pub emit-stopped : t.stopped ≡ true → output_of t room ≡ emit task words store (output_of t room) c ids list
  unfolding emit_by by
  emit-stopped h = sym (when true _ _ h refl refl)

  module _ (r : Bool) (going : t.stopped ≡ false) (q : r ≡ within task t (length list)) where
    pub emit-over : not r ≡ true → output_of (record { groups = t.groups; entries = t.entries; stopped = true }) room ≡ emit task words store (output_of t room) c ids list
    unfolding emit_by by
    emit-over h = sym (when false false _ going (sym q ∙ not-true r h) refl)

    module _ (inside : not r ≡ false) where
      pub emit-count : {t' : Progress} → task.deed ≡ Count → t' ≡ counted t (length list) false → output_of t' room ≡ emit task words store (output_of t room) c ids list
      unfolding emit_by by
      emit-count m e = ap (λ x. output_of x room) e ∙ sym (when false true Count going (sym q ∙ not-false r inside) m)

      pub emit-write : {t' : Progress} {room' : List ℕ} → task.deed ≡ Write → room' ≡ written task words c ids list t room → t' ≡ counted t (length list) false
          → output_of t' room' ≡ emit task words store (output_of t room) c ids list
      unfolding emit_by by
      emit-write {t'} m w e =
          ap (λ x. output_of t' x) w ∙ ap (λ x. output_of x (written task words c ids list t room)) e
          ∙ sym (when false true Write going (sym q ∙ not-false r inside) m)

      pub emit-compare : {t' : Progress} {a : Bool} → task.deed ≡ Compare → a ≡ agrees task words c ids list t store → t' ≡ counted t (length list) (not a)
          → output_of t' room ≡ emit task words store (output_of t room) c ids list
      unfolding emit_by by
      emit-compare {t'} {a} m w e =
          ap (λ x. output_of x room) e ∙ ap (λ x. output_of (counted t (length list) (not x)) room) w
          ∙ sym (when false true Compare going (sym q ∙ not-false r inside) m)

-- a group, then its entries
pub wrote-one : (task : Purpose) (words : List ℕ) (c : ℕ) (ids list : List ℕ) (t : Progress) (r₀ r₁ r₂ : List ℕ)
    → r₁ ≡ over r₀ (group_place task t) (group_record c ids t.entries (length list)) → r₂ ≡ over r₁ (entry_place task t) (list_records words ids list)
    → r₂ ≡ written task words c ids list t r₀
unfolding written
wrote-one task words c ids list t r₀ r₁ r₂ p q = q ∙ ap (λ s. over s (entry_place task t) (list_records words ids list)) p

-- a group and its entries are compared one after the other
module _ (task : Purpose) (words : List ℕ) (c : ℕ) (ids list : List ℕ) (t : Progress) (store : List ℕ) where
  list_agrees : Bool
  list_agrees = same (part store (entry_place task t) (entry_place task t + length list * 8)) (list_records words ids list)

  pub agree-list : {p q : Bool} → p ≡ same (part store (group_place task t) (group_place task t + 24)) (group_record c ids t.entries (length list)) → p ≡ true
      → q ≡ same (part store (entry_place task t) (entry_place task t + length list * 8)) (list_records words ids list) → q ≡ agrees task words c ids list t store
  unfolding agrees list_agrees
  agree-list e h k = k ∙ ap (λ x. x && list_agrees) (sym h ∙ e)

  pub agree-group : {p : Bool} → p ≡ same (part store (group_place task t) (group_place task t + 24)) (group_record c ids t.entries (length list)) → p ≡ false
      → p ≡ agrees task words c ids list t store
  unfolding agrees list_agrees
  agree-group e h = h ∙ ap (λ x. x && list_agrees) (sym h ∙ e)
