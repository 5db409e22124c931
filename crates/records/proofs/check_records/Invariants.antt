-- The loop's invariant: what the whole file is refused for is what the records from i on are refused for.
use mathlib.Core.Path.{◌≡◌}
use Prim.Native.Nat.{◌-◌, ◌/◌}
use lib.ListN.{length}
use Rattle.records.specs.Records.{entries_from}
use Rattle.records.specs.Refusals.{faulty, unsound}
use Rattle.records.proofs.check_records.Given as goal

abbrev pub invariant-loop-i : goal.invariant-loop-i
invariant-loop-i l = unsound l.file ≡ faulty l.i (entries_from l.file l.i (length l.file / 8 - l.i))
