-- Every call's promise is that its outcome is what a definition gives for its input. So outcomes are determined. Assumes nothing.
use Rattle.std.specs.Prelude.{◌≡◌}
use Rattle.std.proofs.Common.{sym, ◌∙◌}
use Rattle.rules.specs.Answers.{Outcome}

-- what a call with the outcome definition `gives` promises of an outcome, for an input
pub record Promised {Input : Type 0} (gives : Input → Outcome) (input : Input) (o : Outcome) : Type 0 where
  pub kept : o ≡ gives input

-- two outcomes that one promise allows for one input are equal
pub determined : {Input : Type 0} {gives : Input → Outcome} {input : Input} {o p : Outcome}
    → Promised gives input o → Promised gives input p → o ≡ p
determined x y = x.kept ∙ sym y.kept
