-- `write_members` meets its contract. The invariant: the records of members up to i stand at the start.
use Prim.Native.Nat.{◌*◌}
use Rattle.answer.specs.inner.Words.{Filled}
use Rattle.answer.specs.inner.Records.{member_by}
use Rattle.answer.proofs.allocation.Allocation.write_members.Given as goal

abbrev pub invariant-loop-i : goal.invariant-loop-i
invariant-loop-i l = Filled (member_by l.records l.self) l.i l.initial.out (8 * l.i) l.out
