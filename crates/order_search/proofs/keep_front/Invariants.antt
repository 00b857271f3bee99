use Rattle.std.proofs.Common.{◌≡◌, ℕ, ◌≤◌, Bool, List, length}
use Rattle.order_search.specs.Answered.{Reads, Tests}
use Rattle.order_search.proofs.Kept.{Kept}
use Rattle.order_search.proofs.keep_front.Given as goal

-- whatever words and test the closures answer for, what is kept and what is left to keep is all that is to be kept
abbrev pub invariant-loop-i : goal.invariant-loop-i
invariant-loop-i g l = record {
  few : l.kept ≤ l.i;
  state : (words : List ℕ) (test : ℕ → Bool) → length words ≡ l.count → Reads (goal.W-post g l.word) words → Tests (goal.W-post g l.word) (goal.T-post g l.passes) l.count test → Kept test words l.i l.kept l.out;
}
