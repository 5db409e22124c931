-- `settle` meets its contract. The loop's invariant: the trades below i are made.
use mathlib.Core.Path.{◌≡◌}
use lib.ListN.{length}
use Rattle.engine.specs.inner.Words.{Flows}
use Rattle.engine.proofs.downward.settle.Given as goal

abbrev pub invariant-loop-i : goal.invariant-loop-i
invariant-loop-i l = (length l.trades ≡ 32) × Flows l.feeder l.chosen l.trades l.i
