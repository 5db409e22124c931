-- The search finds these alone. They are here so that what breaks them is shown beside what is wanted.
use Rattle.std.proofs.Common.{arith}
use Rattle.print.proofs.Page.text.Goals as goal

pub invariant_of-self : goal.invariant_of-self
invariant_of-self c = omega arith
