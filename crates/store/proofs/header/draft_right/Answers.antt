use Rattle.rules.specs.Store.{draft_right}
use Rattle.laws.specs.Cases.{decide}
use Rattle.laws.specs.Header.{passed-long}
use Rattle.store.proofs.header.draft_right.Goals as goal

pub group_count-requires : goal.group_count-requires
group_count-requires c = search (passed-long, decide)

pub entry_count-requires : goal.entry_count-requires
entry_count-requires c = search (passed-long, decide)

pub returns-then-header_right : goal.returns-then-header_right
unfolding draft_right
returns-then-header_right c = search decide

pub returns-else-header_right : goal.returns-else-header_right
unfolding draft_right
returns-else-header_right c = search decide
