-- `own_row` meets its contract. The loop's invariant: at each place the whole table's cell is the higher of what the row has
-- and what the records from i on give. Assumes nothing.
use mathlib.Core.Path.{refl, sym, ap, ◌∙◌}
use mathlib.Core.List.{List}
use native.Mathlib.Omega.{arith}
use Prim.Native.Nat.{ℕ}
use lib.IntN.{pos, ◌-ℤ◌}
use lib.ListN.{get_or}
use Rattle.rows.proofs.Gives.{left_all, left_none, left_more}
use Rattle.rows.proofs.own_row.Goals as goal
use Rattle.rows.proofs.own_row.Goals.{in-Some, in_default}

pub loop-i-init : goal.loop-i-init
loop-i-init c = λ x h. left_all _ _ _ _ _ (c.fill.ensures.clones x 0 (omega (arith, c.fill.ensures.len)) refl) refl

pub loop-i-preserved : goal.loop-i-preserved
loop-i-preserved c =
    λ x h. c.loop-i.invariant x (omega (arith, c.match-offer_at.auto.row)) ∙ left_more _ _ _ _ _ _ _ c.loop-i-test.true
    (elim c.match-offer_at.branch [
      | in-Some w ↦ omega (arith, ap (λ (r : List ℕ). get_or r x 0) w.row-is, w.put.ensures x (omega (arith, c.match-offer_at.auto.row)), w.in-Some.ensures (c.args.top.0 -ℤ pos x))
      | in_default w ↦ omega (arith, ap (λ (r : List ℕ). get_or r x 0) w.row-is, w.in_default.ensures (c.args.top.0 -ℤ pos x))
    ])

pub returns : goal.returns
returns c = λ x h. sym (c.loop-i.invariant x (omega arith) ∙ left_none _ _ _ _ _ _ c.loop-i-test.false)
