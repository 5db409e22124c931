-- `row_len` meets its contract. The loop's invariant: the length is that of the row that the positions below k have been joined on to.
use mathlib.Core.Path.{◌≡◌}
use Prim.Native.Nat.{ℕ, ◌+◌, ◌-◌, ◌*◌, ◌≤◌}
use Rattle.problem.proofs.Reach.{reach}
use Rattle.engine.specs.inner.Words.{walk_of}
use Rattle.engine.proofs.links.row_len.Given as goal

abbrev pub invariant-loop-k : goal.invariant-loop-k
invariant-loop-k l = record {
  few : l.len ≤ 80 * (l.k - 1) + 1;
  joined : (own : ℕ → ℕ → ℕ) → l.len ≡ 1 + reach (walk_of l.feeder own) l.k l.v;
}
