-- `positions` meets its contract, one position a turn. Assumes nothing.
use Rattle.std.proofs.Common.{◌≡◌, ℕ, ◌<◌, ◌≤◌, length}
use Rattle.network.specs.inner.Positions.{no_position, position_at}
use Rattle.market.specs.inner.Feeders.{step_at}
use Rattle.market.specs.inner.Lines.{kept}
use Rattle.market.proofs.tree.positions.Given as goal

abbrev pub invariant-loop-i : goal.invariant-loop-i
invariant-loop-i l = record {
  at : (k : ℕ) → k < l.i → position_at l.out k ≡ step_at (kept l.links) l.walked.step k;
  long : length l.out ≡ 32;
  past : (k : ℕ) → l.i ≤ k → position_at l.out k ≡ no_position;
}
