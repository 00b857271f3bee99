-- The next element of a part of a list, in the words of a loop: the step from i to i + 1. Assumes nothing.
use Rattle.std.proofs.Common.{arith, add-one, sym, ap, ◌∙◌, length-take, drop_of_length-le, drop-cons, drop-set-lt, drop-drop}
use Rattle.std.specs.Prelude.{◌≡◌, List, [], ◌∷◌, ℕ, ◌+◌, ◌≤◌, ◌<◌, length, take, drop, get_or, set}
use Rattle.std.proofs.Math.Seq.{slice, slice-cons}

-- slice i n l is drop i (take n l)
pub slice-next : (i n : ℕ) (l : List ℕ) → i < n → n ≤ length l → slice i n l ≡ get_or l i 0 ∷ slice (i + 1) n l
slice-next i n l h k = rw add-one (slice-cons i n l 0 h k)

pub slice-none : (i n : ℕ) (l : List ℕ) → n ≤ i → slice i n l ≡ []
slice-none i n l h = drop_of_length-le (take n l) {i = i} (rw length-take (omega arith))

pub drop-next : (l : List ℕ) (j : ℕ) → j < length l → drop j l ≡ get_or l j 0 ∷ drop (j + 1) l
drop-next l j h = rw add-one (drop-cons l j 0 h)

-- what stands behind a place is not changed by a store there
pub drop-stored : (out out₀ : List ℕ) (k x : ℕ) → drop k out ≡ drop k out₀ → drop (k + 1) (set out k x) ≡ drop (k + 1) out₀
drop-stored out out₀ k x e = drop-set-lt (k + 1) out k x (omega arith) ∙ sym (drop-drop 1 k out) ∙ ap (drop 1) e ∙ drop-drop 1 k out₀
