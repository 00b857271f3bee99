-- What `all` and `any` over the numbers of a range answer. Assumes nothing.
use Rattle.std.specs.Prelude.{◌≡◌, Bool, true, false, ◌&&◌, ◌||◌}
use Rattle.std.proofs.Math.Path.{refl, ap}
use Rattle.std.proofs.Common.{◌∙◌, List}
use Rattle.std.specs.List.{list_all, list_any, range_with_len, FoldsTo}
use Rattle.std.specs.Option.{MatchOption}
use Rattle.std.specs.Fn.{Called}
use Rattle.std.specs.Iterator.{YieldsThen}
use Rattle.std.specs.declared.ops.Range.{Range}
use Rattle.std.specs.declared.option.Option.{Option}
use Rattle.std.proofs.iter.Yields.{nat_range_steps}
use Rattle.std.proofs.lemmas.Iterator.{YieldsList-from_range}
use Rattle.std.proofs.lemmas.Iterator.Search.{all_from_yields_List, any_from_yields_List}
use denote.Param.Members.{Mut}
use Prim.Native.Nat.{ℕ, zero, suc, ◌+◌}
use Rattle.std.proofs.Math.Nat.{sub-zero}
use Rattle.rules.specs.Lists.{all_from, any_from}

pub list_all-range_with_len : (p : ℕ → Bool) (k n : ℕ) → list_all p (range_with_len k n) ≡ all_from p k n
unfolding all_from
list_all-range_with_len p k zero = refl
list_all-range_with_len p k (suc n) = ap (λ b. p k && b) (list_all-range_with_len p (k + 1) n)

pub list_any-range_with_len : (p : ℕ → Bool) (k n : ℕ) → list_any p (range_with_len k n) ≡ any_from p k n
unfolding any_from
list_any-range_with_len p k zero = refl
list_any-range_with_len p k (suc n) = ap (λ b. p k || b) (list_any-range_with_len p (k + 1) n)

-- for `(0..n).all(f)` and `(0..n).any(f)`, from the clause `ran` of the call: f is called on k gives p k, and leaves f as it was
module _ {F : Type 0} {g : Mut F (ℕ × Unit {0}) Bool} {s u : Range ℕ} (p : ℕ → Bool) (n : ℕ) (f : F) (r : Bool) where
  pub all_from-answered :
      (xs : List ℕ) × (o : Option ℕ) × (j : F) × YieldsThen nat_range_steps s xs o u × FoldsTo (λ q x t. Called g q (x, tt) true t) f xs j × MatchOption o (r ≡ true) (λ x. (r ≡ false) × ((h : F) × Called g j (x, tt) false h))
      → s ≡ record { start = 0; end = n } → ((x : ℕ) (c : Bool) (q : F) → Called g f (x, tt) c q → (q ≡ f) × (c ≡ p x)) → r ≡ all_from p 0 n
  all_from-answered ran e k = all_from_yields_List p u f r ran (YieldsList-from_range 0 n n e (sub-zero n)) k ∙ list_all-range_with_len p 0 n

  pub any_from-answered :
      (xs : List ℕ) × (o : Option ℕ) × (j : F) × YieldsThen nat_range_steps s xs o u × FoldsTo (λ q x t. Called g q (x, tt) false t) f xs j × MatchOption o (r ≡ false) (λ x. (r ≡ true) × ((h : F) × Called g j (x, tt) true h))
      → s ≡ record { start = 0; end = n } → ((x : ℕ) (c : Bool) (q : F) → Called g f (x, tt) c q → (q ≡ f) × (c ≡ p x)) → r ≡ any_from p 0 n
  any_from-answered ran e k = any_from_yields_List p u f r ran (YieldsList-from_range 0 n n e (sub-zero n)) k ∙ list_any-range_with_len p 0 n
