-- Laws of `From` and `Strict`: lists that ascend strictly. Assumes nothing.
use Rattle.std.proofs.Common.{arith, ne_eqb, lt-ltb}
use Rattle.std.specs.Prelude.{◌≡◌, refl, true, false, List, [], ◌∷◌, ℕ, suc, ◌≤◌, ◌<◌, zero, length, get_or, take, drop, ltb}
use Rattle.rules.specs.Lists.{has, all}
use Rattle.laws.specs.Cases.{and-yes}

-- strictly ascending, from n on
unfoldable pub From : ℕ → List ℕ → Type 0
From n [] = Unit {0}
From n (y ∷ ys) = (n ≤ y) × From (suc y) ys

-- strictly ascending
abbrev pub Strict : List ℕ → Type 0
Strict l = From 0 l

pub from-lower : (m n : ℕ) (l : List ℕ) → m ≤ n → From n l → From m l
unfolding From
from-lower m n [] h f = tt
from-lower m n (y ∷ l) h f = let k = f.0 in (omega arith, f.1)

pub below : (z n : ℕ) (l : List ℕ) → From n l → z < n → has z l ≡ false
unfolding From has
below z n [] f h = refl
below z n (y ∷ l) f h = let k = f.0 in rw (ne_eqb z y (λ e. omega arith)) (below z (suc y) l f.1 (omega arith))

pub from-above : (v n : ℕ) (l : List ℕ) → v < n → From n l → all (λ y. ltb v y) l ≡ true
unfolding From all
from-above v n [] h f = refl
from-above v n (y ∷ l) h f =
    let k = f.0 in
    and-yes (ltb v y) (all (λ y. ltb v y) l) (lt-ltb v y (omega arith)) (from-above v (suc y) l (omega arith) f.1)

pub strict-next : (n : ℕ) (l : List ℕ) (i : ℕ) → From n l → suc i < length l → get_or l i 0 < get_or l (suc i) 0
unfolding From
strict-next n [] i f h = absurd (omega arith)
strict-next n (x ∷ []) i f h = absurd (omega arith)
strict-next n (x ∷ y ∷ l) zero f h = f.1.0
strict-next n (x ∷ y ∷ l) (suc i) f h = strict-next (suc x) (y ∷ l) i f.1 (omega arith)

-- by places
pub from-up : (n : ℕ) (ws : List ℕ) → From n ws → (i j : ℕ) → i ≤ j → j < length ws → (n ≤ get_or ws i 0) × (get_or ws i 0 ≤ get_or ws j 0)
unfolding From
from-up n [] f i j h k = absurd (omega arith)
from-up n (y ∷ ws) f zero zero h k = (f.0, omega arith)
from-up n (y ∷ ws) f zero (suc j) h k = let a = from-up (suc y) ws f.1 j j (omega arith) (omega arith) in let b = a.0 in (f.0, omega arith)
from-up n (y ∷ ws) f (suc i) zero h k = absurd (omega arith)
from-up n (y ∷ ws) f (suc i) (suc j) h k =
    let a = from-up (suc y) ws f.1 i j (omega arith) (omega arith) in
    let b = a.0 in
    let l = f.0 in
    (omega arith, a.1)

pub drop-from : (i n : ℕ) (l : List ℕ) → From n l → From n (drop i l)
unfolding From
drop-from zero n l s = s
drop-from (suc i) n [] s = tt
drop-from (suc i) n (y ∷ l) s = let k = s.0 in from-lower n (suc y) (drop i l) (omega arith) (drop-from i (suc y) l s.1)

pub take-from : (i n : ℕ) (l : List ℕ) → From n l → From n (take i l)
unfolding From
take-from zero n l s = tt
take-from (suc i) n [] s = tt
take-from (suc i) n (y ∷ l) s = (s.0, take-from i (suc y) l s.1)
