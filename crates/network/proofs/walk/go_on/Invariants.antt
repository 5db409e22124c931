use mathlib.Core.Path.{◌≡◌}
use lib.ListN.{length}
use Rattle.network.specs.inner.Walks.{on_mask}
use Rattle.network.proofs.walk.go_on.Given as goal

abbrev pub invariant-loop-k : goal.invariant-loop-k
invariant-loop-k l = on_mask l.adj l.steps l.reached.0 (length l.steps) ≡ on_mask l.adj l.steps l.reached.0 l.k
