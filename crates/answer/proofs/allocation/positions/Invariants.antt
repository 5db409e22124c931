-- `positions` meets its contract. The invariant: the positions below i have been put down.
use Rattle.answer.proofs.Seating.{Seating}
use Rattle.answer.proofs.allocation.positions.Given as goal

abbrev pub invariant-loop-i : goal.invariant-loop-i
invariant-loop-i l = Seating l.feeder l.position l.i
