-- `combine` meets its contract. The loop's invariant: the cells and choices below x are new, made of the old row; those from x
-- on are as they were, and of the row these are all that cell x needs. Assumes nothing.
use native.Mathlib.Omega.{arith}
use mathlib.Core.Path.{◌∙◌}
use Rattle.problem.proofs.Max.{max_to_ext, argmax_ext}
use Rattle.rows.proofs.Turns.{one_made, made_meets}
use Rattle.rows.proofs.combine.Goals as goal

pub loop-x-preserved : goal.loop-x-preserved
loop-x-preserved c =
    let i = c.loop-x.invariant in
    let m = made_meets i.0 c.args.msg.now in (
      one_made i.0 (omega arith) (c.cell-c.ensures.0 ∙ max_to_ext _ _ _ (λ p _. m p)),
      one_made i.1 (omega arith) (c.cell-c.ensures.1 ∙ argmax_ext _ _ _ (λ p _. m p)),
    )
