use Rattle.std.proofs.Common.{◌≡◌, rules, tests, refl, sym, ◌∙◌}
use mathlib.Core.Bool.{cond}
use mathlib.Core.List.{[], ◌∷◌}
use Rattle.rules.specs.Plan.{figure_of, covered_with}
use Rattle.laws.specs.Least.{node_only}
use Rattle.plan_ways.specs.Ways.{suited, narrowed}
use Rattle.plan_ways.proofs.Choosing.{least-flat}
use Rattle.plan_ways.proofs.Ends.{fixed-here, fixed-missing}
use Rattle.plan_ways.proofs.Folding.{best-folded}
use Rattle.plan_ways.proofs.Lent.least.Goals as goal
use Rattle.plan_ways.proofs.Lent.least.Goals.{in-Some+else-is_some, in_default}

pub returns-then-is_some : goal.returns-then-is_some
returns-then-is_some c =
    let inside = rw c.in-Some.is at c.requires.1 in
    rw c.in-Some.is (fixed-here _ _ _ _ _ inside _ c.node_only-fixed.ensures (sym c.is_some.ensures ∙ c.if-is_some.true))

pub returns : goal.returns
returns c =
    let self = c.args.self in
    let same : narrowed c.args.other (covered_with self.b.now self.figures.now c.args.u c.args.label) ≡ covered_with self.b.now self.figures.now c.args.u c.args.label =
    elim c.match-other.branch [
      | in-Some+else-is_some w ↦
          let inside = rw w.in-Some.is at c.requires.1 in
          rw w.in-Some.is (fixed-missing _ _ _ _ _ inside _ w.node_only-fixed.ensures (sym w.is_some.ensures ∙ w.if-is_some.false))
      | in_default w ↦ rw w.in_default.is
    ] in
    rw (same, ← (least-flat self.b.now self.figures.now c.args.u c.args.label), ← c.size_of.ensures)
    (best-folded (λ w. cond (suited self.b.now self.figures.now c.args.u c.args.label w) (node_only (figure_of self.figures.now) w ∷ []) []) _ _ _ c.fold.ensures.ran refl
    (λ a x b q k. search (rules, tests)))
