-- `offers` meets its contract: the tally of the records before record i, and what is left. Assumes nothing.
use Rattle.market.proofs.Tables.{Tallying}
use Rattle.market.proofs.offers.offers.Given as goal

abbrev pub invariant-loop-i : goal.invariant-loop-i
invariant-loop-i l = Tallying l.file l.i-end l.i l.t
