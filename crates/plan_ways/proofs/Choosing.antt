-- What the tests of the functions on ways come to. Assumes nothing.
use mathlib.Core.Path.{◌≡◌, sym, ap, ◌∙◌}
use mathlib.Core.Bool.{Bool, true, false, cond, not, ◌&&◌}
use mathlib.Core.List.{List, [], ◌∷◌, flat_map}
use mathlib.Core.Option.{Option, some, none}
use Prim.Native.Nat.{ℕ, ◌*◌, ◌≤◌, ◌<◌}
use native.Mathlib.Nat.{mul-le-mul}
use native.Mathlib.Omega.{arith}
use lib.Dec.{eqb}
use lib.ListN.{get_or}
use borrow.Author.Tests.{ne_eqb}
use Rattle.rules.specs.Lists.{range}
use Rattle.rules.specs.Pattern.{size_of, pattern_label}
use Rattle.rules.specs.Plan.{figure_of, covered, covered_with, smaller, smallest}
use Rattle.rules.specs.declared.Row.{Row}
use Rattle.laws.specs.Keep.{map-keep}
use Rattle.laws.specs.Least.{node_only, least}
use Rattle.std.specs.Prelude.{Some, None}
use Rattle.std.specs.Prelude as code
use Rattle.plan_ways.specs.Ways.{way_in, taken, slot_of, suited, Known}

-- ---- a node by itself
module _ (b figures : List ℕ) (u label w : ℕ) (r : Bool) (q : r ≡ suited b figures u label w) where
  pub only-yes : (x : Row) → r ≡ true → x ≡ node_only (figure_of figures) w
      → ◌≡◌ {A = Option Row} (some x) (smallest (cond (suited b figures u label w) (node_only (figure_of figures) w ∷ []) []))
  unfolding smallest smaller
  only-yes x h e = rw (sym q ∙ h) (ap some e)

  pub only-no : r ≡ false → ◌≡◌ {A = Option Row} none (smallest (cond (suited b figures u label w) (node_only (figure_of figures) w ∷ []) []))
  unfolding smallest
  only-no h = rw (sym q ∙ h)

-- ---- the slot of a label that is not 0
module _ (label : ℕ) (o : Option Row) (r : code.Option Row) (n : label ≡ 0 → ⊥) (e : way_in r ≡ o) where
  pub slot-none : r ≡ None → None ≡ slot_of label o
  unfolding slot_of taken
  slot-none h = rw (ne_eqb label 0 n, ← e, h)

  pub slot-some : (x : Row) → r ≡ Some x → Some (record { node = x.number; figure = x.figure }) ≡ slot_of label o
  unfolding slot_of taken
  slot-some x h = rw (ne_eqb label 0 n, ← e, h)

-- ---- the best node for a label
pub least-flat : (b figures : List ℕ) (u label : ℕ)
    → smallest (flat_map (λ w. cond (suited b figures u label w) (node_only (figure_of figures) w ∷ []) []) (range 0 (size_of b)))
    ≡ least (figure_of figures) (covered_with b figures u label)
unfolding covered_with
least-flat b figures u label = sym (ap smallest (map-keep (node_only (figure_of figures)) (suited b figures u label) (range 0 (size_of b))))

-- ---- a covered neighbour with the label, by the table
pub suits-told : (b : List ℕ) (t : List (List Bool)) (figures : List ℕ) (u label w l : ℕ) → Known b t → u < size_of b → w < size_of b → l ≡ pattern_label b w
    → (not (eqb (get_or figures w 0) 0) && get_or (get_or t u []) w false && eqb l label) ≡ suited b figures u label w
unfolding covered
suits-told b t figures u label w l k hu hw e =
    let small = k.few in
    rw (k.table.says u w (omega arith) (omega arith), e)

-- ---- a figure fits: N is at most 65,535 and each chosen node's figure at most 65,536
pub four-fit : {m a b c : ℕ} → m ≤ 65535 → a ≤ 65536 → b ≤ 65536 → c ≤ 65536 → m * a * b * c ≤ 65535 * 65536 * 65536 * 65536
four-fit h k l n = mul-le-mul (mul-le-mul (mul-le-mul h k) l) n
