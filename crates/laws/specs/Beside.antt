-- Laws of `Beside`: two lists of the same length, element by element. Assumes nothing.
use Rattle.std.specs.Prelude.{◌≡◌, refl, List, [], ◌∷◌, ℕ, zero, suc, ◌<◌, length, get_or}
use Rattle.std.proofs.Common.{ap, arith}
use Rattle.laws.specs.Every.{Every}

unfoldable pub Beside : {A B : Type 0} → (A → B → Type 0) → List A → List B → Type 0
Beside R [] [] = Unit {0}
Beside R [] (y ∷ ys) = ⊥
Beside R (x ∷ xs) [] = ⊥
Beside R (x ∷ xs) (y ∷ ys) = R x y × Beside R xs ys

pub beside-more : {A B : Type 0} (R Q : A → B → Type 0) → ((x : A) (y : B) → R x y → Q x y) → (xs : List A) (ys : List B) → Beside R xs ys → Beside Q xs ys
unfolding Beside
beside-more R Q f [] [] h = tt
beside-more R Q f [] (y ∷ ys) h = h
beside-more R Q f (x ∷ xs) [] h = h
beside-more R Q f (x ∷ xs) (y ∷ ys) h = (f x y h.0, beside-more R Q f xs ys h.1)

pub beside-length : {A B : Type 0} (R : A → B → Type 0) (xs : List A) (ys : List B) → Beside R xs ys → length ys ≡ length xs
unfolding Beside
beside-length R [] [] h = refl
beside-length R [] (y ∷ ys) h = absurd h
beside-length R (x ∷ xs) [] h = absurd h
beside-length R (x ∷ xs) (y ∷ ys) h = ap suc (beside-length R xs ys h.1)

pub beside-at : (R : ℕ → ℕ → Type 0) (xs ys : List ℕ) → Beside R xs ys → (i : ℕ) → i < length ys → R (get_or xs i 0) (get_or ys i 0)
unfolding Beside
beside-at R [] [] h i l = absurd (omega arith)
beside-at R [] (y ∷ ys) h i l = absurd h
beside-at R (x ∷ xs) [] h i l = absurd h
beside-at R (x ∷ xs) (y ∷ ys) h zero l = h.0
beside-at R (x ∷ xs) (y ∷ ys) h (suc i) l = beside-at R xs ys h.1 i (omega arith)

-- what holds of each of the second
pub beside-every : {A B : Type 0} (R : A → B → Type 0) (P : B → Type 0) → ((x : A) (y : B) → R x y → P y) → (xs : List A) (ys : List B) → Beside R xs ys → Every P ys
unfolding Beside Every
beside-every R P f [] [] h = tt
beside-every R P f [] (y ∷ ys) h = absurd h
beside-every R P f (x ∷ xs) [] h = absurd h
beside-every R P f (x ∷ xs) (y ∷ ys) h = (f x y h.0, beside-every R P f xs ys h.1)

-- a third list beside the second stands beside the first
pub beside-beside : (R Q S : ℕ → ℕ → Type 0) → ((x y z : ℕ) → R x y → Q y z → S x z) → (xs ys zs : List ℕ) → Beside R xs ys → Beside Q ys zs → Beside S xs zs
unfolding Beside
beside-beside R Q S f [] [] [] h k = tt
beside-beside R Q S f [] [] (z ∷ zs) h k = k
beside-beside R Q S f [] (y ∷ ys) zs h k = absurd h
beside-beside R Q S f (x ∷ xs) [] zs h k = absurd h
beside-beside R Q S f (x ∷ xs) (y ∷ ys) [] h k = k
beside-beside R Q S f (x ∷ xs) (y ∷ ys) (z ∷ zs) h k = (f x y z h.0 k.0, beside-beside R Q S f xs ys zs h.1 k.1)
