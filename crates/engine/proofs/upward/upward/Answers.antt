-- `upward` meets its contract. The loop's invariant: the members from v on have sent their messages.
use Rattle.engine.proofs.Passes.{done_next}
use Rattle.engine.proofs.upward.upward.Goals as goal

pub member-requires-clause-ready : goal.member-requires-clause-ready
member-requires-clause-ready c = (_, done_next c.args.feeder.now c.args.records.now _ _ c.loop-v-test.true c.loop-v.invariant)
