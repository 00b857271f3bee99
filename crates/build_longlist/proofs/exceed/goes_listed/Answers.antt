use Rattle.std.proofs.Common.{rules, tests, ◌∙◌}
use Rattle.std.proofs.lemmas.Iterator.{YieldsList-from_slice}
use Rattle.std.proofs.lemmas.Iterator.Consumers.{YieldsList-from_filter}
use Rattle.std.proofs.lemmas.Iterator.Search.{all_from_yields_List}
use Rattle.build_edges.specs.Packed.{word_in}
use Rattle.build_longlist.proofs.Exceeding.{all-filtered}
use Rattle.build_longlist.proofs.exceed.goes_listed.Goals as goal

pub returns : goal.returns
returns c =
    all_from_yields_List (word_in c.args.joined.now c.args.w) _ _ _ c.all.ensures.ran
    (YieldsList-from_filter _ (word_in c.args.joined.now c.args.u) (YieldsList-from_slice c.args.list.now (cc)) c.filter.ensures.closure (λ x b q k. search (rules, tests)))
    (λ x b q k. search (rules, tests))
    ∙ all-filtered (word_in c.args.joined.now c.args.u) (word_in c.args.joined.now c.args.w) c.args.list.now
