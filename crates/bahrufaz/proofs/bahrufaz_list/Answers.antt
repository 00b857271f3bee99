use Rattle.bahrufaz.proofs.Eight.{gives-wide, listing-told}
use Rattle.bahrufaz.proofs.bahrufaz_list.Goals as goal

pub returns : goal.returns
returns c =
    let told = listing-told _ _ _ _ _ c.number_of.ensures c.unwrap_or-listed.ensures c.list-answer.ensures in
    gives-wide _ _ _ _ _ _ _ _ _ _ told c.lower.ensures c.upper.ensures c.give.ensures
