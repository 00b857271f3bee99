-- What it is for candidates to ascend, words of proofs/Standing. Nothing is proved here.
use Rattle.std.specs.Prelude.{ℕ}
use Rattle.std.proofs.Math.Option.{Option, some, none}
use Rattle.rules.specs.Listing.{Gathered}
use Rattle.laws.specs.Strict.{Strict}
use Rattle.demands.specs.Gathers.{candidates_at}

-- ---- candidates ascend, whatever is read
abbrev pub StrictAll : Gathered → Type 0
StrictAll got = (u : ℕ) → Strict (candidates_at got u)

unfoldable pub StrictIn : Option Gathered → Type 0
StrictIn none = Unit {0}
StrictIn (some got) = StrictAll got
