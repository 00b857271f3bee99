use Rattle.std.proofs.Common.{◌≡◌, ◌∙◌, refl, sym, ltb, get_or, rules}
use Rattle.laws.specs.Searching.{is_below}
use Rattle.build_neighbours.specs.Side.{place_of, places}
use Rattle.build_neighbours.proofs.Sought.{below-place, whole-search}
use Rattle.build_neighbours.proofs.side.lower_place.Goals as goal

pub returns : goal.returns
returns c =
    let a = c.args in
    let nodes = a.nodes.now in
    let words = a.words.now in
    let searched = c.first_from.ensures.search (is_below (places nodes words) a.x)
    (λ i r h called. let e : r ≡ ltb (place_of nodes (get_or words i 0)) a.x = search rules in e ∙ below-place a.x i (place_of nodes (get_or words i 0)) c.requires h refl) in
    (searched ∙ sym (whole-search nodes words a.x), c.first_from.ensures.within)
