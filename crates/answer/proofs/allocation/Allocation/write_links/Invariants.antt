-- `write_links` meets its contract. The invariant: the records of the links of members up to i stand at the start.
use Rattle.answer.specs.inner.Words.{Filled}
use Rattle.answer.specs.inner.Records.{links_of}
use Rattle.answer.proofs.allocation.Allocation.write_links.Given as goal

abbrev pub invariant-loop-i : goal.invariant-loop-i
invariant-loop-i l = Filled (links_of l.self) l.i l.initial.out l.at l.out
