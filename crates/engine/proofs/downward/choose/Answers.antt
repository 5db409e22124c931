-- `choose` meets its contract. The loop's invariant: the choices before i are read, and the indices are those after them.
use native.Mathlib.Omega.{arith}
use mathlib.Core.Path.{◌≡◌}
use Prim.Native.Nat.{◌+◌, ◌≤◌, ◌<◌}
use lib.ListN.{get_or}
use Rattle.network.specs.inner.Feeders.{parent_at, toward_at, away_at}
use Rattle.engine.specs.inner.Words.{walk_of, choice_in}
use Rattle.engine.proofs.Shape.{shape}
use Rattle.engine.proofs.Falls.{fall_start, fall_end, fall_fits, fall_turn}
use Rattle.engine.proofs.downward.choose.Goals as goal
use Rattle.engine.proofs.downward.choose.Goals.{After-slot}

pub loop-i-init : goal.loop-i-init
loop-i-init c = λ own k. fall_start (walk_of c.args.feeder.now own) _

-- the index that is read, the place of its choice, and that choice
reads : (c : After-slot) → let f = c.args.feeder.now in let x = (choice_in c.loop-i.chosen (parent_at f c.loop-i.i)).index in
    (x ≤ 2480) × (c.slot.result + x < 37231) × (get_or c.args.choices.now (c.slot.result + x) 0 ≤ toward_at f c.loop-i.i + away_at f c.loop-i.i)
reads c =
    let k = c.requires in
    fall_fits (walk_of c.args.feeder.now k.0) _ (shape c.args.feeder.now k.0) k.1 c.loop-i.chosen (c.loop-i.invariant k.0 k.1) c.loop-i.auto.i (omega arith) c.slot.ensures

pub overflow_add-taken : goal.overflow_add-taken
overflow_add-taken c = omega (arith, reads (goal.at.overflow_add-taken c).After-slot)

pub bounds-choices-slot : goal.bounds-choices-slot
bounds-choices-slot c = (reads (goal.at.bounds-choices-slot c).After-slot).1

pub overflow_sub-chosen : goal.overflow_sub-chosen
overflow_sub-chosen c = omega (arith, reads (goal.at.overflow_sub-chosen c).After-slot)

pub overflow_add-chosen : goal.overflow_add-chosen
overflow_add-chosen c =
    omega (arith, reads (goal.at.overflow_add-chosen c).After-slot, (shape c.args.feeder.now (λ v x. 0)).narrow c.loop-i.i)

pub loop-i-preserved : goal.loop-i-preserved
loop-i-preserved c = λ own k.
    fall_turn (walk_of c.args.feeder.now own) _ (shape c.args.feeder.now own) k c.loop-i.chosen (c.loop-i.invariant own k) c.loop-i.auto.i c.loop-i-test.true c.slot.ensures c.width.ensures

pub returns : goal.returns
returns c = λ own k.
    let e : c.loop-i.i ≡ c.args.feeder.now.members = omega (arith, c.args.feeder.now.sound.some) in
    fall_end (walk_of c.args.feeder.now own) _ (shape c.args.feeder.now own) (rw e at (c.loop-i.invariant own k))
