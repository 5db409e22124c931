-- `positions` meets its contract. The check finds the step alone; given here, a wrong position is shown beside the right one.
use Rattle.answer.proofs.Seating.{seating_none, seating_more}
use Rattle.answer.proofs.allocation.positions.Goals as goal

pub loop-i-init : goal.loop-i-init
loop-i-init c = seating_none _

pub loop-i-preserved : goal.loop-i-preserved
loop-i-preserved c = seating_more c.args.feeder.now c.loop-i.invariant c.loop-i-test.true c.index.ensures
