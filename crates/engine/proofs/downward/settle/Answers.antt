-- `settle` meets its contract. The loop's invariant: the trades below i are made.
use mathlib.Core.Path.{refl}
use Rattle.engine.proofs.Fill.{flows_none}
use Rattle.engine.proofs.downward.settle.Goals as goal

pub loop-i-init : goal.loop-i-init
loop-i-init c = (refl, flows_none _ _)
