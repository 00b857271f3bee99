-- What an answered listing gives, for any store, admitted or not. Assumes nothing.
use Rattle.std.specs.Prelude.{◌≡◌, ℕ, get_or}
use Rattle.std.proofs.Common.{ap}
use mathlib.Core.List.{List}
use Rattle.rules.specs.Store.{node_part, constraint_part, group_part, entry_part}
use Rattle.rules.specs.Plan.{rows_of}
use Rattle.rules.specs.Listing.{reader_of}
use Rattle.rules.specs.Answers.{gathered, list_outcome}
use Rattle.laws.specs.PatternLaws.{pattern-says}
use Rattle.demands.proofs.Standing.{rows-over, rows-ordered, candidates-strict}
use Rattle.demands.proofs.Answered.{answer}
use Rattle.demands.specs.AnyStore.{Rows}

-- Listing, when it answers 0, gives exactly the rows over the candidates and pairs that it has gathered, whatever the store.
pub listing-rows : (s b work room : List ℕ) → (list_outcome s b work room).number ≡ 0 → Rows s b work room
unfolding gathered
listing-rows s b work room z =
    let a = answer s b work room z in
    let got = a.given.got in
    let strict = candidates-strict (reader_of (node_part s) (constraint_part s) (group_part s) (entry_part s)) b (rows_of (constraint_part s) b) got a.given.read in
    record {
      got = got;
      read = a.given.read;
      exact = rows-over (pattern-says b a.heard.plan.pattern) got;
      ordered = rows-ordered b got (λ u l. strict u);
      written = ap (λ o. o.room) a.given.same;
      counted = ap (λ o. get_or o.results 0 0) a.given.same;
    }
