-- What a fold over the numbers of a range gives that takes the better way each time. Assumes nothing.
use Rattle.std.specs.Prelude.{◌≡◌, None}
use Rattle.std.specs.Prelude as code
use Rattle.std.proofs.Math.Path.{refl, sym, ap}
use Rattle.std.proofs.Common.{◌∙◌}
use mathlib.Core.List.{List, [], ◌∷◌, ◌++◌, flat_map, append-nil}
use Rattle.std.specs.List.{range_with_len, FoldsTo}
use Rattle.std.specs.Fn.{Called}
use Rattle.std.specs.Iterator.{Drains}
use Rattle.std.specs.declared.ops.Range.{Range}
use Rattle.std.proofs.iter.Yields.{nat_range_steps}
use Rattle.std.proofs.lemmas.Iterator.{YieldsList-from_range}
use Rattle.std.proofs.lemmas.Fn.{fold_over}
use denote.Param.Members.{Mut}
use Prim.Native.Nat.{ℕ, zero, suc, ◌+◌}
use Rattle.std.proofs.Math.Nat.{sub-zero}
use Rattle.rules.specs.Lists.{range}
use Rattle.rules.specs.Plan.{smallest}
use Rattle.rules.specs.declared.Row.{Row}
use Rattle.laws.specs.Smallest.{better, smallest-append}
use Rattle.laws.specs.Map.{flat-append}
use Rattle.plan_ways.specs.Ways.{way_in}

same-range : (k n : ℕ) → range_with_len k n ≡ range k n
unfolding range
same-range k zero = refl
same-range k (suc n) = ap (λ l. k ∷ l) (same-range (k + 1) n)

one-more : (f : ℕ → List Row) (ys : List ℕ) (x : ℕ) → better (smallest (flat_map f ys)) (smallest (f x)) ≡ smallest (flat_map f (ys ++ (x ∷ [])))
unfolding flat_map
one-more f ys x = sym (rw (flat-append f ys (x ∷ []), append-nil) (smallest-append (flat_map f ys) (f x)))

-- from the clause `ran` of the fold: each call takes the better of the best so far and the smallest of f x, and leaves the closure as it was
pub best-folded : {F : Type 0} {g : Mut F (code.Option Row × (ℕ × Unit {0})) (code.Option Row)} {s : Range ℕ} (f : ℕ → List Row) (n : ℕ) (q : F) (r : code.Option Row)
    → (xs : List ℕ) × (t : F) × Drains nat_range_steps s xs × FoldsTo {P = F × code.Option Row} (λ a x b. Called g a.0 (a.1, (x, tt)) b.1 b.0) (q, None) xs (t, r)
    → s ≡ record { start = 0; end = n }
    → ((a : code.Option Row) (x : ℕ) (b : code.Option Row) (t : F) → Called g q (a, (x, tt)) b t → (way_in b ≡ better (way_in a) (smallest (f x))) × (t ≡ q))
    → way_in r ≡ smallest (flat_map f (range 0 n))
unfolding smallest flat_map
best-folded {F} {g} {s} f n q r ran e call =
    fold_over nat_range_steps (λ x. x) g (λ ys a. way_in a ≡ smallest (flat_map f ys)) q
    (λ ys a x b t j k. ((call a x b t k).0 ∙ ap (λ o. better o (smallest (f x))) j ∙ one-more f ys x, (call a x b t k).1))
    s (range_with_len 0 n) None r (YieldsList-from_range 0 n n e (sub-zero n)).runs refl ran
    ∙ ap (λ l. smallest (flat_map f l)) (same-range 0 n)
