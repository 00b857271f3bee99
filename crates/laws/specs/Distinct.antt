-- Laws of `Distinct`: numbers that do not repeat. Assumes nothing.
use Rattle.std.proofs.Common.{arith, sym, ◌∙◌, true≢false, eq-eqb}
use Rattle.std.proofs.Math.Decide.{dec_le, ℕ_discrete}
use Rattle.std.specs.Prelude.{◌≡◌, true, false, List, [], ◌∷◌, ◌++◌, ℕ, suc, ◌≤◌, eqb}
use Rattle.rules.specs.Lists.{has, insert, sort_of}
use Rattle.laws.specs.Strict.{From, Strict, below}
use Rattle.laws.specs.Has.{first-has, later-has, has-append}
use Rattle.laws.specs.Sets.{has-sort, insert-before, insert-after}
use Rattle.laws.specs.Cases.{or-first, or-second}

unfoldable pub Distinct : List ℕ → Type 0
Distinct [] = Unit {0}
Distinct (x ∷ l) = (has x l ≡ false) × Distinct l

pub insert-from : (n x : ℕ) (l : List ℕ) → From n l → n ≤ x → has x l ≡ false → From n (insert x l)
unfolding From has
insert-from n x [] s h f = unfold insert in (h, tt)
insert-from n x (y ∷ l) s h f = go (dec_le x y) (ℕ_discrete x y) (λ k. insert-from (suc y) x l s.1 k (or-second (eqb x y) (has x l) f))
  where
    go : Dec (x ≤ y) → Dec (x ≡ y) → (suc y ≤ x → From (suc y) (insert x l)) → From n (insert x (y ∷ l))
    go p (yes e) ih = absurd (true≢false (sym (eq-eqb x y e) ∙ or-first (eqb x y) (has x l) f))
    go (yes p) (no e) ih = rw (insert-before x y l p) (h, (omega arith, s.1))
    go (no p) (no e) ih = rw (insert-after x y l (omega arith)) (s.0, ih (omega arith))

pub sort-strict : (l : List ℕ) → Distinct l → Strict (sort_of l)
unfolding sort_of Distinct From
sort-strict [] d = tt
sort-strict (x ∷ l) d = insert-from 0 x (sort_of l) (sort-strict l d.1) (omega arith) (has-sort x l ∙ d.0)

pub strict-distinct : (n : ℕ) (l : List ℕ) → From n l → Distinct l
unfolding From Distinct
strict-distinct n [] f = tt
strict-distinct n (y ∷ l) f = (below y (suc y) l f.1 (omega arith), strict-distinct (suc y) l f.1)

-- two lists without a common number
pub distinct-append : (a b : List ℕ) → Distinct a → Distinct b → ((z : ℕ) → has z a ≡ true → has z b ≡ false) → Distinct (a ++ b)
unfolding Distinct
distinct-append [] b da db apart = db
distinct-append (x ∷ a) b da db apart =
    (has-append x a b ∙ rw da.0 (apart x (first-has x a)), distinct-append a b da.1 db (λ z h. apart z (later-has x z a h)))
