-- The loop of `read`: what was read stands at the file's start, and what is left of the file falls.
use Rattle.std.proofs.Common.{◌≡◌, ◌-◌, ◌≤◌, length, take}
use Rattle.std.specs.Io.KnownBytes.{Consumes}
use Rattle.streams.proofs.read.Given as goal

abbrev pub invariant-loop-n : goal.invariant-loop-n
invariant-loop-n g l =
    (l.n ≤ length l.file) × (length l.file ≡ length l.fn.file) × Consumes (g.R.Read.remaining l.initial.reader) (g.R.Read.remaining l.reader) (take l.n l.file)

abbrev pub decreases-loop-n : goal.decreases-loop-n
decreases-loop-n g l = length l.file - l.n
