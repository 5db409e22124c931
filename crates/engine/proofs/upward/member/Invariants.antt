-- `member` meets its contract. The loop's invariant: for every own row that the table makes, the row has taken in the children
-- from position k on; no message has changed.
use mathlib.Core.Path.{◌≡◌}
use Prim.Native.Nat.{ℕ, ◌≤◌}
use Rattle.engine.specs.inner.Words.{walk_of, Ready}
use Rattle.engine.proofs.Turns.{Gathering}
use Rattle.engine.proofs.upward.member.Given as goal

abbrev pub invariant-loop-k : goal.invariant-loop-k
invariant-loop-k l = record {
  few : l.len ≤ 2481;
  messages : l.stores.messages ≡ l.initial.stores.messages;
  gathered : (own : ℕ → ℕ → ℕ) → Ready l.feeder l.table l.v l.initial.stores own → Gathering (walk_of l.feeder own) l.feeder.members l.row l.stores.choices l.v l.len l.k;
}
