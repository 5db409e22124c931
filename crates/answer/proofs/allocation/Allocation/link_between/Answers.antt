-- `link_between` meets its contract. The check finds these two alone; given here, a wrong test or a wrong end is shown beside the
-- right one.
use Rattle.answer.proofs.Joints.{not_below, higher_reached}
use Rattle.answer.proofs.allocation.Allocation.link_between.Goals as goal

pub returns-then-ge-clause-is : goal.returns-then-ge-clause-is
returns-then-ge-clause-is c = not_below c.args.self.now c.args.a.0 c.args.b.0 c.if-ge.ensures

pub returns-then-self-higher-clause-is : goal.returns-then-self-higher-clause-is
returns-then-self-higher-clause-is c = higher_reached c.args.self.now c.args.a.0 c.args.b.0 c.if-ge.ensures c.place_of-higher.ensures.is c.place_of-lower.ensures.is c.if-self-higher.true
