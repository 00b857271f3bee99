-- Whether a list is inside the entries, as the definition says it. Assumes nothing.
use Rattle.std.proofs.Common.{rules}
use Rattle.rules.specs.Listing.{inside}
use Rattle.store_lookup.proofs.fitness.list_inside.Goals as goal

pub returns : goal.returns
unfolding inside
returns c = search rules
