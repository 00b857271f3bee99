use Rattle.std.proofs.Common.{rules, tests, ◌∙◌, ◌%◌}
use Rattle.std.proofs.lemmas.Iterator.{YieldsList-from_slice, YieldsList-from_map}
use Rattle.std.proofs.lemmas.Iterator.Consumers.{YieldsList-from_filter}
use Rattle.std.proofs.lemmas.Iterator.Search.{all_from_yields_List}
use Rattle.laws.specs.Searching.{stands_in}
use Rattle.laws.specs.Lows.{lows}
use Rattle.build_edges.specs.Packed.{word_in}
use Rattle.build_longlist.proofs.Exceeding.{all-filtered}
use Rattle.build_longlist.proofs.exceed.goes_near.Goals as goal

pub returns : goal.returns
returns c =
    all_from_yields_List (word_in c.args.joined.now c.args.w) _ _ _ c.all.ensures.ran
    (YieldsList-from_filter _ (λ v. stands_in v c.args.list.now)
    (YieldsList-from_map _ (λ w. w % 65536) (YieldsList-from_slice c.args.near.now (cc)) c.map.ensures.closure (λ x b q k. search rules))
    c.filter.ensures.closure (λ x b q k. search (rules, tests)))
    (λ x b q k. search (rules, tests))
    ∙ all-filtered (λ v. stands_in v c.args.list.now) (word_in c.args.joined.now c.args.w) (lows c.args.near.now)
