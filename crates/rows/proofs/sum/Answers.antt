-- `sum` meets its contract: none where either is none, and else the sum less 1. Assumes nothing.
use Rattle.rows.proofs.Turns.{one_none, both}
use Rattle.rows.proofs.sum.Goals as goal

pub returns-then-b-eq0 : goal.returns-then-b-eq0
returns-then-b-eq0 c = one_none _ _ c.if-b-eq0.either

pub returns-else-b-eq0 : goal.returns-else-b-eq0
returns-else-b-eq0 c = both _ _ c.if-b-eq0.false
