-- The next element of a part of a list, a slice of a part, and the members of a part. Assumes nothing.
use Rattle.std.proofs.Common.{arith, sym, ap, ◌∙◌}
use Rattle.std.specs.Prelude.{◌≡◌, true, List, [], ◌∷◌, ℕ, zero, suc, ◌+◌, ◌-◌, ◌≤◌, ◌<◌, length, take, drop, get_or}
use Rattle.std.proofs.Math.Seq.{slice, take-nil}
use Rattle.rules.specs.Words.{part}
use Rattle.rules.specs.Lists.{has}
use Rattle.laws.specs.Parts.{length-part, get-part, part-part}
use Rattle.laws.specs.Slices.{drop-next}
use Rattle.laws.specs.Has.{has-get}

-- the next element of a part, in the words of a loop
pub part-next : (l : List ℕ) (i e : ℕ) → i < e → e ≤ length l → part l i e ≡ get_or l i 0 ∷ part l (i + 1) e
part-next l i e h k =
    let n : e - i ≡ suc (e - (i + 1)) = omega arith in
    let d : drop i l ≡ get_or l i 0 ∷ drop (i + 1) l = drop-next l i (omega arith) in
    rw (n, d)

pub part-none : (l : List ℕ) (i e : ℕ) → e ≤ i → part l i e ≡ []
part-none l i e h = let n : e - i ≡ 0 = omega arith in rw n

take-drop : (lo n : ℕ) (l : List ℕ) → take n (drop lo l) ≡ drop lo (take (lo + n) l)
take-drop zero n l = let e : 0 + n ≡ n = omega arith in rw e
take-drop (suc lo) n [] = take-nil n ∙ sym (ap (drop (suc lo)) (take-nil (suc lo + n)))
take-drop (suc lo) n (x ∷ l) =
    let e : suc lo + n ≡ suc (lo + n) = omega arith in
    take-drop lo n l ∙ rw e

-- a part of a part, as a slice of it
pub part-slice : (l : List ℕ) (a e lo hi : ℕ) → lo ≤ hi → a + hi ≤ e → part l (a + lo) (a + hi) ≡ slice lo hi (part l a e)
part-slice l a e lo hi h k =
    let m : lo + (hi - lo) ≡ hi = omega arith in
    sym (part-part l a e lo hi k h) ∙ take-drop lo (hi - lo) (part l a e) ∙ ap (λ n. slice lo n (part l a e)) m

pub part-has : (l : List ℕ) (a e k : ℕ) → a ≤ k → k < e → e ≤ length l → has (get_or l k 0) (part l a e) ≡ true
part-has l a e k h j m =
    let n : a + (k - a) ≡ k = omega arith in
    let x : get_or (part l a e) (k - a) 0 ≡ get_or l k 0 = get-part l a e (k - a) (omega arith) ∙ rw n in
    rw x at (has-get (part l a e) (k - a) (omega (arith, length-part l a e m)))
