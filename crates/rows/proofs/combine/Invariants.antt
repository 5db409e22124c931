-- `combine` meets its contract. The loop's invariant: the cells and choices below x are new, made of the old row; those from x
-- on are as they were, and of the row these are all that cell x needs. Assumes nothing.
use Prim.Native.Nat.{◌-◌}
use lib.ListN.{length}
use Rattle.problem.proofs.Max.{max_to, argmax}
use Rattle.rows.specs.inner.Rows.{meets}
use Rattle.rows.proofs.Turns.{Made}
use Rattle.rows.proofs.combine.Given as goal

abbrev pub invariant-loop-x : goal.invariant-loop-x
invariant-loop-x l = Made (λ y. max_to (meets l.initial.row l.msg y) (length l.msg - 1)) l.initial.row l.row l.x × Made (λ y. argmax (meets l.initial.row l.msg y) (length l.msg - 1)) l.initial.choice l.choice l.x
