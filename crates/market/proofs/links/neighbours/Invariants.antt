-- `neighbours` meets its contract, one line a turn. Assumes nothing.
use Rattle.market.proofs.Kept.{Nearing}
use Rattle.market.proofs.links.neighbours.Given as goal

abbrev pub invariant-loop-x : goal.invariant-loop-x
invariant-loop-x l = Nearing l.links l.adj l.x-index
