use Rattle.network.proofs.Stops.{Walks}
use Rattle.network.proofs.walk.walk.Given as goal

abbrev pub invariant-loop-count : goal.invariant-loop-count
invariant-loop-count l = Walks l.adj l.step l.count l.reached.0
