-- The search ends, and what it ends at is found. Assumes nothing.
use Rattle.std.proofs.Common.{rules}
use Rattle.rules.specs.Listing.{found}
use Rattle.store_lookup.proofs.keys.find.Goals as goal

pub returns : goal.returns
unfolding found
returns c = search rules
