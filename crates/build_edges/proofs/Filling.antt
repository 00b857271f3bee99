-- A loop that writes f 0, f 1, .., f (n - 1) over the front of a room: its state, and a law for each need. Assumes nothing.
use native.Mathlib.Omega.{arith}
use native.Mathlib.Numerals.{add-one}
use native.Mathlib.Nat.{sub-zero}
use mathlib.Core.Path.{◌≡◌, refl, sym, ap, ◌∙◌}
use mathlib.Core.List.{List, [], ◌∷◌, ◌++◌, map, append-nil}
use Prim.Native.Nat.{ℕ, suc, ◌+◌, ◌-◌, ◌≤◌, ◌<◌}
use lib.ListN.{length, take, drop, set, length-set, take-append-drop}
use lib.Seq.{take-suc-set, drop-set-lt, drop-drop, append_snoc}
use borrow.Author.Rules.{rules}
use Rattle.rules.specs.Lists.{range}

pub record Filling (f : ℕ → ℕ) (n : ℕ) (out₀ out : List ℕ) (i : ℕ) : Type 0 where
  pub ahead : i ≤ n
  pub same : length out ≡ length out₀
  pub rest : drop i out ≡ drop i out₀
  pub todo : take i out ++ map f (range i (n - i)) ≡ map f (range 0 n)

pub begun : (f : ℕ → ℕ) (n : ℕ) (out : List ℕ) → Filling f n out out 0
begun f n out = record { ahead = omega arith; same = refl; rest = refl; todo = rw sub-zero }

module _ {f : ℕ → ℕ} {n : ℕ} {out₀ out : List ℕ} {i : ℕ} (g : Filling f n out₀ out i) where
  pub filled : (x : ℕ) → i < n → n ≤ length out₀ → x ≡ f i → Filling f n out₀ (set out i x) (i + 1)
  unfolding range
  filled x h fits e =
      let m : n - i ≡ suc (n - (i + 1)) = omega arith in
      let q : take (i + 1) (set out i x) ≡ take i out ++ (x ∷ []) = rw add-one (take-suc-set out i x (omega (arith, g.same))) in
      record {
        ahead = omega arith;
        same = length-set out i x ∙ g.same;
        rest = drop-set-lt (i + 1) out i x (omega arith) ∙ sym (drop-drop 1 i out) ∙ ap (drop 1) g.rest ∙ drop-drop 1 i out₀;
        todo = rw (q, append_snoc, e) (rw m at g.todo);
      }

  pub ended : n ≤ i → out ≡ map f (range 0 n) ++ drop n out₀
  unfolding range
  ended h =
      let z : n - i ≡ 0 = omega arith in
      let e : i ≡ n = omega arith in
      let t : take i out ≡ map f (range 0 n) = sym (append-nil (take i out)) ∙ rw z at g.todo in
      sym (take-append-drop i out) ∙ rw (t, g.rest, e)

pub ruleset fill = (begun, filled, ended, rules)
