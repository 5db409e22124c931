use Rattle.network.proofs.Stops.{next_found, none_here, none_found}
use Rattle.network.proofs.walk.go_on.Goals as goal

pub returns-in-Some : goal.returns-in-Some
returns-in-Some c =
    next_found _ _ _ _ _ c.loop-k.invariant c.loop-k-test.true _ _ c.index.ensures c.without-free.ensures c.in-Some.ensures.0 _ c.in-Some.ensures.1

pub loop-k-preserved : goal.loop-k-preserved
loop-k-preserved c = none_here _ _ _ _ _ c.loop-k.invariant c.loop-k-test.true _ _ c.index.ensures c.without-free.ensures c.in_default.ensures

pub returns : goal.returns
returns c = none_found _ _ _ _ _ c.loop-k.invariant c.loop-k-test.false
