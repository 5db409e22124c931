-- `cell_at` meets its contract. The loop's invariant: the whole table's cell is the higher of the best so far and what the
-- records from i on give. Assumes nothing.
use mathlib.Core.Path.{◌≡◌}
use Prim.Native.Nat.{max}
use Rattle.problem.specs.Problem.{value}
use Rattle.problem.proofs.Prices.{cell_of}
use Rattle.records.specs.Records.{entries}
use Rattle.records.specs.Market.{offers_of}
use Rattle.rows.proofs.Gives.{left}
use Rattle.rows.proofs.cell_at.Given as goal

abbrev pub invariant-loop-i : goal.invariant-loop-i
invariant-loop-i l = cell_of 1000000 (value (offers_of (entries l.records)) l.j.0 l.x.0) ≡ max l.best (left l.records l.i-end l.j.0 l.x.0 l.i)
