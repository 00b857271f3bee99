use Rattle.std.proofs.Common.{◌≡◌, ◌∙◌, refl, rules}
use Rattle.laws.specs.Searching.{stands_in, stands-has}
use Rattle.order_search.proofs.has_word.Goals as goal

pub returns : goal.returns
returns c =
    let e : c.stands_at.result ≡ stands_in c.args.x c.args.words.now =
    rw c.from.ensures at (c.stands_at.ensures c.args.words.now refl (λ i r h called. search rules)) in
    (e, λ s. e ∙ stands-has _ _ s)
