use Rattle.std.proofs.Common.{◌≡◌, ◌∙◌, ap, ℕ, false, List, length, get_or, eqb, ltb, ◌<◌, ◌≤◌, arith, le-ltb, lt-ltb}
use Rattle.laws.specs.Searching.{is_below, lower, stands_in}
use Rattle.order_search.proofs.stands_at.Goals as goal
use Rattle.order_search.proofs.stands_at.Goals.{then-at-count, else-at-count}

module _ (x : ℕ) (ws : List ℕ) (at : ℕ) (e : at ≡ lower x ws) where
  beyond : length ws ≤ at → false ≡ stands_in x ws
  unfolding stands_in
  beyond h = rw (← e, le-ltb at (length ws) h)

  there : at < length ws → (w : ℕ) → w ≡ get_or ws at 0 → eqb w x ≡ stands_in x ws
  unfolding stands_in
  there h w q = rw (q, ← e, lt-ltb at (length ws) h)

pub returns : goal.returns
unfolding lower
returns g c words long reads =
    let e : c.first_from-at.result ≡ lower c.args.x words =
    rw (← long) at (c.first_from-at.ensures.search (is_below words c.args.x) (λ i r h called. called.2 ∙ ap (λ w. ltb w c.args.x) (reads _ _ (omega arith) called.1))) in
    elim c.if-at-count.branch [
      | then-at-count w ↦ w.result-is ∙ there _ _ _ e (omega arith) _ (reads _ _ (omega arith) w.word.ensures)
      | else-at-count w ↦ w.result-is ∙ le-ltb _ _ w.if-at-count.false ∙ beyond _ _ _ e (omega arith)
    ]
