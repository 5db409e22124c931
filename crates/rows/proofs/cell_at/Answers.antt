-- `cell_at` meets its contract. The loop's invariant: the whole table's cell is the higher of the best so far and what the
-- records from i on give. Assumes nothing.
use mathlib.Core.Path.{refl, sym, ◌∙◌}
use native.Mathlib.Omega.{arith}
use Rattle.rows.proofs.Gives.{left_all, left_none, left_more}
use Rattle.rows.proofs.cell_at.Goals as goal
use Rattle.rows.proofs.cell_at.Goals.{in-Some, in_default}

pub loop-i-init : goal.loop-i-init
loop-i-init c = left_all _ _ _ _ _ refl refl

pub loop-i-preserved : goal.loop-i-preserved
loop-i-preserved c =
    c.loop-i.invariant ∙ left_more _ _ _ _ _ _ _ c.loop-i-test.true
    (elim c.match-offer_at.branch [
      | in-Some w ↦ omega (arith, w.in-Some.ensures c.args.x.0)
      | in_default w ↦ omega (arith, w.in_default.ensures c.args.x.0)
    ])

pub returns : goal.returns
returns c = sym (c.loop-i.invariant ∙ left_none _ _ _ _ _ _ c.loop-i-test.false)
