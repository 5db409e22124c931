-- `write_links_of` meets its contract. The invariant: the records of the links to members up to i stand at the start.
use Rattle.answer.specs.inner.Words.{Filled}
use Rattle.answer.specs.inner.Records.{link_by}
use Rattle.answer.proofs.allocation.Allocation.write_links_of.Given as goal

abbrev pub invariant-loop-i : goal.invariant-loop-i
invariant-loop-i l = Filled (link_by l.self l.a.0) l.i l.initial.out l.at l.out
