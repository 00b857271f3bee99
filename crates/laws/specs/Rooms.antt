-- The length of a new room, told by a law: to compute it would go through the whole room. Assumes nothing.
use Rattle.std.proofs.Common.{arith, sym, ◌∙◌}
use Rattle.std.specs.Prelude.{◌≡◌, List, ℕ, ◌≤◌, length, replicate}
use Rattle.std.proofs.lemmas.List.{length-replicate}

pub new-long : (n a : ℕ) → n ≡ length (replicate n a)
new-long n a = sym (length-replicate n a)

pub new-fits : (n a : ℕ) → n ≤ length (replicate n a)
new-fits n a = rw length-replicate (omega arith)

-- a room as long as a new one
pub kept-long : (n a : ℕ) (l : List ℕ) → length l ≡ length (replicate n a) → n ≡ length l
kept-long n a l e = sym (e ∙ length-replicate n a)
