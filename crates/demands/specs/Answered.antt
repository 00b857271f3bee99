-- What a listing is told that is not refused, and what it gathers, words of proofs/Answered. Nothing is proved here.
use Rattle.std.proofs.Math.Path.{◌≡◌}
use Rattle.std.specs.Prelude.{ℕ, ◌*◌, ◌≤◌, length}
use Rattle.std.proofs.Math.Bool.{true}
use mathlib.Core.List.{List}
use Rattle.std.proofs.Math.Option.{Option}
use Rattle.rules.specs.Store.{header_right, node_part, constraint_part, group_part, entry_part}
use Rattle.rules.specs.Plan.{bound}
use Rattle.rules.specs.Listing.{Gathered}
use Rattle.rules.specs.Answers.{gathered}
use Rattle.laws.specs.Plannable.{Plannable}

-- ---- 1 and 9
-- a listing for which none of 1, 3, 6, 7, 8 and 9 is given
pub record Heard (s b work : List ℕ) : Type 0 where
  pub header : header_right s ≡ true
  pub plan : Plannable (constraint_part s) b
  pub enough : 2 * bound (constraint_part s) b ≤ length work

-- ---- the outcome
-- what is read where none of these numbers is given
abbrev pub gathered_of : List ℕ → List ℕ → Option Gathered
gathered_of s b = gathered (node_part s) (constraint_part s) (group_part s) (entry_part s) b
