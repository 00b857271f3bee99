-- Laws of `over`. Assumes nothing.
use Rattle.std.specs.Prelude.{◌≡◌, refl, ℕ, ◌+◌, ◌≤◌, suc, ◌-◌, ◌<◌, List, [], ◌∷◌, ◌++◌, take, set, drop, get_or}
use Rattle.std.proofs.Common.{◌∙◌, add-zero, add_assoc, zero-add, add-one, arith, append_assoc, append-nil, length-drop, take-append-drop, drop_of_length-le, take_at, take-take, length-take-le, take-suc-set, drop-set-lt, take_all}
use Rattle.std.proofs.Math.Numerals.{towards_suc}
use Rattle.std.proofs.Math.ListN.{length, length-append, length-take}
use Rattle.std.proofs.Math.Seq.{drop_at, drop-drop, sets-eq, append_snoc, paste, paste-suc}
use Rattle.std.proofs.lemmas.List.Edits.{sets}
use Rattle.std.proofs.lemmas.List.{take-append-le}
use Rattle.rules.specs.Words.{over, part}

-- nothing written changes nothing
pub over-nil : (s : List ℕ) (i : ℕ) → over s i [] ≡ s
unfolding over
over-nil s i = simp (add-zero, append-nil, take-append-drop)

module _ (s : List ℕ) (i : ℕ) (a : List ℕ) (fits : i + length a ≤ length s) where
  pub length-over : length (over s i a) ≡ length s
  unfolding over
  length-over = simp (length-append, length-take, length-drop) (omega arith)

  -- two runs, the second just after the first, are one run
  pub over-over : (b : List ℕ) → over (over s i a) (i + length a) b ≡ over s i (a ++ b)
  unfolding over
  over-over b =
      let e : length (take i s ++ a) ≡ i + length a = simp (length-append, length-take) (omega arith) in
      rw (take_at _ _ _ e, ← drop-drop, drop_at _ _ _ e, drop-drop, length-append, add_assoc) (simp append_assoc)

  -- the elements stored one by one, as straight-line code leaves them
  pub sets-over : sets s i a ≡ over s i a
  unfolding over
  sets-over = sets-eq a s i fits

-- four stores in a row
pub four-over : (s : List ℕ) (i a b c d : ℕ) → i + 4 ≤ length s
    → set (set (set (set s i a) (i + 1) b) (i + 2) c) (i + 3) d ≡ over s i (a ∷ b ∷ c ∷ d ∷ [])
four-over s i a b c d fits = simp towards_suc (sets-over s i (a ∷ b ∷ c ∷ d ∷ []) fits)

-- two stores in a row
pub two-over : (s : List ℕ) (i a b : ℕ) → i + 2 ≤ length s → set (set s i a) (i + 1) b ≡ over s i (a ∷ b ∷ [])
two-over s i a b fits = simp towards_suc (sets-over s i (a ∷ b ∷ []) fits)

-- the front of the room is what was written
pub over-front : (room w : List ℕ) → take (length w) (over room 0 w) ≡ w
unfolding over
over-front room w = take_at w _ (length w) refl

-- what is written at the start comes first
pub over-start : (room w : List ℕ) → over room 0 w ≡ w ++ drop (length w) room
unfolding over
over-start room w = rw zero-add

-- what stands before is unchanged
pub take-over : (w : List ℕ) (base i : ℕ) (l : List ℕ) → base ≤ i → i ≤ length w → take base (over w i l) ≡ take base w
unfolding over
take-over w base i l h k =
    let e : base ≤ length (take i w) = rw length-take (omega arith) in
    rw append_assoc (take-append-le base (take i w) _ e ∙ take-take base i w h)

-- what was written is read
pub part-over : (w ws : List ℕ) (used : ℕ) → used ≤ length w → part (over w used ws) used (used + length ws) ≡ ws
unfolding over
part-over w ws used h =
    let e : used + length ws - used ≡ length ws = omega arith in
    rw (append_assoc (take used w) ws (drop (used + length ws) w), drop_at (take used w) (ws ++ drop (used + length ws) w) used (length-take-le used w h), e)
    (take_at ws (drop (used + length ws) w) (length ws) refl)

-- a word put in front of what is written
pub over-push : (w : List ℕ) (at x : ℕ) (l : List ℕ) → at < length w → over (set w at x) (at + 1) l ≡ over w at (x ∷ l)
unfolding over
over-push w at x l h =
    let q : take (at + 1) (set w at x) ≡ take at w ++ (x ∷ []) = rw add-one (take-suc-set w at x h) in
    let d : drop (at + 1 + length l) (set w at x) ≡ drop (at + 1 + length l) w = drop-set-lt (at + 1 + length l) w at x (omega arith) in
    let e : at + 1 + length l ≡ at + suc (length l) = omega arith in
    rw (q, d, e, append_snoc)

-- what is written over the whole of a run is what stands there
pub over-all : (s w : List ℕ) → length s ≤ length w → over s 0 w ≡ w
unfolding over
over-all s w h = rw (drop_of_length-le s {i = 0 + length w} (omega arith)) (append-nil w)

-- words pasted one by one
pub paste-next : (room room₀ bytes : List ℕ) (at i : ℕ) → room ≡ paste room₀ at bytes i → at + i < length room₀ → i < length bytes
    → set room (at + i) (get_or bytes i 0) ≡ paste room₀ at bytes (i + 1)
paste-next room room₀ bytes at i e h k = rw (e, add-one) (paste-suc room₀ at bytes i 0 h k)

pub paste-done : (room room₀ bytes : List ℕ) (at i : ℕ) → room ≡ paste room₀ at bytes i → i ≡ length bytes → room ≡ over room₀ at bytes
unfolding over
paste-done room room₀ bytes at i e q = rw (q, take_all (length bytes) bytes (omega arith)) at e

pub paste-over : (d s : List ℕ) (at n : ℕ) → n ≤ length s → paste d at s n ≡ over d at (take n s)
unfolding over
paste-over d s at n h = rw (length-take-le n s h)
