-- A part of a run that holds other bytes is those bytes written over the run. Assumes nothing.
use Rattle.std.proofs.Common.{◌≡◌, ℕ, List, length, append_assoc, drop-drop}
use borrow.Rule.Slice.PartMut.{put_mid}
use Rattle.rules.specs.Words.{over}

pub put_mid-over : (s w ys : List ℕ) (i n : ℕ) → ys ≡ w → n ≡ length w → put_mid i n s ys ≡ over s i w
unfolding over
put_mid-over s w ys i n e k = rw (e, k, drop-drop, append_assoc)
