-- `take_in` meets its contract: the choices have room in the store, and `combine` does the rest.
use native.Mathlib.Omega.{arith}
use Prim.Native.Nat.{◌+◌, ◌-◌, ◌≤◌}
use lib.ListN.{length}
use Rattle.std.proofs.Common.{rules}
use Rattle.engine.proofs.Slots.{slot_end}
use Rattle.engine.proofs.Parts.{taken_law}
use Rattle.engine.proofs.stores.take_in.Goals as goal
use Rattle.engine.proofs.stores.take_in.Goals.{After-slot}

room : (c : After-slot) → c.slot.result + (length c.args.row.now - c.args.w) ≤ 37231
room c = omega (arith, c.slot.ensures, slot_end c.args.i c.requires.cells.0 c.requires.cells.1)

pub slice_bounds-combine-count : goal.slice_bounds-combine-count
slice_bounds-combine-count c = omega (arith, room (goal.at.slice_bounds-combine-count c).After-slot)

pub slice_bounds-combine-start : goal.slice_bounds-combine-start
slice_bounds-combine-start c = let h = room (goal.at.slice_bounds-combine-start c).After-slot in search rules

pub combine-requires-clause-sizes : goal.combine-requires-clause-sizes
combine-requires-clause-sizes c = let h = room (goal.at.combine-requires-clause-sizes c).After-slot in search rules

pub returns : goal.returns
returns c =
    let h = room (goal.at.returns c).After-slot in
    taken_law c.args.message.now c.args.row.now c.args.choices.now c.args.i c.args.w c.slot.result (37231 - c.slot.result) c.slot.ensures
    (omega arith) (omega arith) (omega arith) (omega arith) _ _ c.combine.auto.choice c.combine.ensures
