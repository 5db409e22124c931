-- `cell` meets its contract. The loop's invariant: best and pick are the best of the places below p and the first that has it.
-- Assumes nothing.
use native.Mathlib.Omega.{arith}
use mathlib.Core.Path.{◌≡◌, refl, ap, ◌∙◌}
use Prim.Native.Nat.{ℕ, ◌+◌, ◌-◌}
use lib.ListN.{length, get_or}
use Rattle.problem.proofs.Cell.{◌⊕◌}
use Rattle.problem.proofs.Max.{max_to, argmax}
use Rattle.rows.specs.inner.Rows.{meets}
use Rattle.rows.proofs.Turns.{better, no_better}
use Rattle.rows.proofs.cell.Goals as goal
use Rattle.rows.proofs.cell.Goals.{then-best-s, else-best-s}

pub loop-p-init : goal.loop-p-init
unfolding meets max_to argmax
loop-p-init c =
    let a = c.args in
    let e : a.x + (length a.msg.now - 1) ≡ a.x + (length a.msg.now - 1 - 0) = omega arith in
    (c.sum-best.ensures ∙ ap (λ (t : ℕ). get_or a.msg.now 0 0 ⊕ get_or a.row.now t 0) e, refl)

pub loop-p-preserved : goal.loop-p-preserved
unfolding meets
loop-p-preserved c =
    let a = c.args in
    let p = c.loop-p in
    let f : ℕ → ℕ = meets a.row.now a.msg.now a.x in
    elim c.if-best-s.branch [
      | then-best-s w ↦ let b = better f p.p _ _ _ p.auto.p p.invariant c.sum-s.ensures w.if-best-s.true in (w.best-is ∙ b.0, w.pick-is ∙ b.1)
      | else-best-s w ↦ let b = no_better f p.p _ _ _ p.auto.p p.invariant c.sum-s.ensures w.if-best-s.false in (w.best-is ∙ b.0, w.pick-is ∙ b.1)
    ]
