-- `neighbours` meets its contract, one line a turn. Assumes nothing.
use Rattle.market.proofs.Kept.{nearing_none, nearing_more, nearing_all}
use Rattle.market.proofs.links.neighbours.Goals as goal

pub loop-x-init : goal.loop-x-init
loop-x-init c = nearing_none _

pub loop-x-preserved : goal.loop-x-preserved
loop-x-preserved c = nearing_more _ _ _ _ c.x-item.result c.loop-x-test.true c.x-item.is c.linked.array_long c.linked.ensures c.loop-x.invariant

pub returns : goal.returns
returns c = nearing_all _ _ _ c.loop-x-test.false c.loop-x.invariant
