-- Laws of `same`: two runs of bytes compared. Assumes nothing.
use Rattle.std.specs.Prelude.{◌≡◌, refl, true, ◌&&◌, ◌↔◌, List, [], ◌∷◌, ◌++◌, ℕ, eqb, length}
use Rattle.std.proofs.Common.{sym, ap, ◌∙◌, eqb-true, eq-eqb, ne_eqb, arith}
use Rattle.std.proofs.lemmas.Bool.{false≢true}
use Rattle.std.proofs.Math.Bool.{and_assoc}
use Rattle.std.proofs.Math.Decide.{ℕ_discrete}
use Rattle.rules.specs.Answers.{same}
use Rattle.laws.specs.Cases.{first-holds, second-holds}

pub same-equal : (a b : List ℕ) → same a b ≡ true → a ≡ b
unfolding same
same-equal [] [] h = refl
same-equal [] (y ∷ b) h = absurd (false≢true h)
same-equal (x ∷ a) [] h = absurd (false≢true h)
same-equal (x ∷ a) (y ∷ b) h =
    let head : x ≡ y = eqb-true _ _ (first-holds (eqb x y) (same a b) h) in
    let tail : a ≡ b = same-equal a b (second-holds (eqb x y) (same a b) h) in
    cc

pub same-self : (a : List ℕ) → same a a ≡ true
unfolding same
same-self [] = refl
same-self (x ∷ a) = rw (eq-eqb x x refl) (same-self a)

pub equal-same : (a b : List ℕ) → a ≡ b → same a b ≡ true
equal-same a b e = rw e (same-self b)

-- Two runs are the same exactly when they are equal.
pub same-exactly : (a b : List ℕ) → (same a b ≡ true) ↔ (a ≡ b)
same-exactly a b = (same-equal a b, equal-same a b)

-- a comparison may be turned round
pub eqb-turned : (x y : ℕ) → eqb x y ≡ eqb y x
eqb-turned x y = go (ℕ_discrete x y)
  where
    go : Dec (x ≡ y) → eqb x y ≡ eqb y x
    go (yes e) = eq-eqb x y e ∙ sym (eq-eqb y x (sym e))
    go (no f) = ne_eqb x y f ∙ sym (ne_eqb y x (λ e. f (sym e)))

pub same-turned : (a b : List ℕ) → same a b ≡ same b a
unfolding same
same-turned [] [] = refl
same-turned [] (y ∷ b) = refl
same-turned (x ∷ a) [] = refl
same-turned (x ∷ a) (y ∷ b) = ap (λ t. t && same a b) (eqb-turned x y) ∙ ap (λ t. eqb y x && t) (same-turned a b)

pub same-append : (a b c d : List ℕ) → length a ≡ length c → same (a ++ b) (c ++ d) ≡ (same a c && same b d)
unfolding same
same-append [] b [] d h = refl
same-append [] b (z ∷ c) d h = absurd (omega arith)
same-append (y ∷ a) b [] d h = absurd (omega arith)
same-append (y ∷ a) b (z ∷ c) d h = ap (λ t. eqb y z && t) (same-append a b c d (omega arith)) ∙ sym (and_assoc (eqb y z) (same a c) (same b d))
