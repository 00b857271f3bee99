-- Comparing bytes: two runs are the same if their parts are. Assumes nothing.
use native.Mathlib.Omega.{arith}
use mathlib.Core.Path.{◌≡◌, refl, sym, ap, ◌∙◌}
use mathlib.Core.Bool.{Bool, true, false, ◌&&◌}
use mathlib.Core.List.{List, [], ◌∷◌, ◌++◌, flat_map}
use Prim.Native.Nat.{ℕ, suc, ◌+◌, ◌-◌, ◌*◌, ◌≤◌}
use lib.Dec.{eqb}
use lib.ListN.{length, drop, length-take, length-drop}
use Rattle.std.specs.Cmp.Lexicographic.{pointwise}
use lib.Seq.{take-add, drop-drop}
use Rattle.rules.specs.Words.{part}
use Rattle.rules.specs.Answers.{same}
use Rattle.laws.specs.Same.{same-append}
use Rattle.build_groups.specs.Emit.{entry_record, list_records}
use Rattle.build_groups.proofs.Records.{length-entry}

-- `==` on slices tells whether they are the same
pub equal-same : (a b : List ℕ) → pointwise eqb a b ≡ same a b
unfolding same
equal-same [] [] = refl
equal-same [] (y ∷ b) = refl
equal-same (x ∷ a) [] = refl
equal-same (x ∷ a) (y ∷ b) = ap (λ t. eqb x y && t) (equal-same a b)

-- a loop over the entries of a list: what is left decides the whole
pub record Entries (words ids store : List ℕ) (whole : Bool) (next : ℕ) (left : List ℕ) : Type 0 where
  pub fits : next + length left * 8 ≤ length store
  pub rest : whole ≡ same (part store next (next + length left * 8)) (list_records words ids left)

module _ {words ids store : List ℕ} {whole : Bool} {next v : ℕ} {left : List ℕ} (g : Entries words ids store whole next (v ∷ left)) where
  entry : whole ≡ (same (part store next (next + 8)) (entry_record words ids v) && same (part store (next + 8) (next + 8 + length left * 8)) (list_records words ids left))
  unfolding list_records flat_map
  entry =
      let fits = g.fits in
      let n : next + suc (length left) * 8 - next ≡ 8 + length left * 8 = omega arith in
      let a : next + 8 - next ≡ 8 = omega arith in
      let b : next + 8 + length left * 8 - (next + 8) ≡ length left * 8 = omega arith in
      let split : part store next (next + suc (length left) * 8) ≡ part store next (next + 8) ++ part store (next + 8) (next + 8 + length left * 8) =
      rw (n, a, b, ← drop-drop) (take-add 8 (length left * 8) (drop next store)) in
      let long : length (part store next (next + 8)) ≡ length (entry_record words ids v) =
      simp (length-take, length-drop, length-entry) (omega arith) in
      g.rest ∙ rw split (same-append (part store next (next + 8)) (part store (next + 8) (next + 8 + length left * 8)) (entry_record words ids v) (list_records words ids left) long)

  pub entry-next : {r : Bool} → r ≡ same (part store next (next + 8)) (entry_record words ids v) → r ≡ true → Entries words ids store whole (next + 8) left
  entry-next q e = let fits = g.fits in record { fits = omega arith; rest = entry ∙ rw (sym q ∙ e) }

  pub entry-stop : {r : Bool} → r ≡ same (part store next (next + 8)) (entry_record words ids v) → r ≡ false → false ≡ whole
  entry-stop q e = sym (entry ∙ rw (sym q ∙ e))

pub entries-done : {words ids store : List ℕ} {whole : Bool} {next : ℕ} → Entries words ids store whole next [] → true ≡ whole
unfolding list_records flat_map same
entries-done {words} {ids} {store} {whole} {next} g = let z : next + 0 * 8 - next ≡ 0 = omega arith in sym (g.rest ∙ rw z)
