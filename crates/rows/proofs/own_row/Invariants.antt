-- `own_row` meets its contract. The loop's invariant: at each place the whole table's cell is the higher of what the row has
-- and what the records from i on give. Assumes nothing.
use mathlib.Core.Path.{◌≡◌}
use Prim.Native.Nat.{ℕ, ◌<◌, max}
use lib.IntN.{pos, ◌-ℤ◌}
use lib.ListN.{length, get_or}
use Rattle.problem.specs.Problem.{value}
use Rattle.problem.proofs.Prices.{cell_of}
use Rattle.records.specs.Records.{entries}
use Rattle.records.specs.Market.{offers_of}
use Rattle.rows.proofs.Gives.{left}
use Rattle.rows.proofs.own_row.Given as goal

abbrev pub invariant-loop-i : goal.invariant-loop-i
invariant-loop-i l = (x : ℕ) → x < length l.row → cell_of 1000000 (value (offers_of (entries l.records)) l.j.0 (l.top.0 -ℤ pos x)) ≡ max (get_or l.row x 0) (left l.records l.i-end l.j.0 (l.top.0 -ℤ pos x) l.i)
