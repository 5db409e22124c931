-- `cell` meets its contract. The loop's invariant: best and pick are the best of the places below p and the first that has it.
-- Assumes nothing.
use mathlib.Core.Path.{◌≡◌}
use Prim.Native.Nat.{◌-◌}
use Rattle.problem.proofs.Max.{max_to, argmax}
use Rattle.rows.specs.inner.Rows.{meets}
use Rattle.rows.proofs.cell.Given as goal

abbrev pub invariant-loop-p : goal.invariant-loop-p
invariant-loop-p l = (l.best ≡ max_to (meets l.row l.msg l.x) (l.p - 1)) × (l.pick ≡ argmax (meets l.row l.msg l.x) (l.p - 1))
