-- `upward` meets its contract. The loop's invariant: the members from v on have sent their messages.
use Rattle.records.specs.Records.{entries}
use Rattle.records.specs.Market.{offers_of}
use Rattle.engine.specs.inner.Words.{own_of, Done}
use Rattle.engine.proofs.upward.upward.Given as goal

abbrev pub invariant-loop-v : goal.invariant-loop-v
invariant-loop-v l = Done l.feeder l.v l.stores (own_of l.feeder (offers_of (entries l.records)))
