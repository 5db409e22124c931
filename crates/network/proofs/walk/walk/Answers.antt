use native.Mathlib.Omega.{arith}
use Rattle.network.proofs.Stops.{walks_none, walks_full}
use Rattle.network.proofs.walk.walk.Goals as goal

pub loop-count-init : goal.loop-count-init
loop-count-init c = walks_none _ _ c.only-reached.ensures

pub returns : goal.returns
returns c = walks_full _ _ _ _ c.loop-count.invariant (omega (arith, c.loop-count.auto.count-end (omega arith)))
