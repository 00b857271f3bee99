use Rattle.std.proofs.Common.{refl, ◌∙◌, arith}
use Rattle.std.proofs.lemmas.Slice.{put_mid-paste}
use Rattle.rules.specs.Plan.{row_words}
use Rattle.laws.specs.Over.{paste-over}
use Rattle.plan_rows.proofs.put_row.Goals as goal

pub returns : goal.returns
unfolding row_words
returns c =
    put_mid-paste _ _ _ _ (row_words c.args.row) 8 c.copy_from_slice.ensures.after (omega arith) refl
    ∙ paste-over _ (row_words c.args.row) c.args.at 8 (omega arith)
