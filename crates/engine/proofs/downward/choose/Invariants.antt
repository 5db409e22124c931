-- `choose` meets its contract. The loop's invariant: the choices before i are read, and the indices are those after them.
use Prim.Native.Nat.{ℕ}
use Rattle.engine.specs.inner.Words.{walk_of, Kept}
use Rattle.engine.proofs.Falls.{Falling}
use Rattle.engine.proofs.downward.choose.Given as goal

abbrev pub invariant-loop-i : goal.invariant-loop-i
invariant-loop-i l = (own : ℕ → ℕ → ℕ) → Kept (walk_of l.feeder own) l.feeder.members l.choices 0 0
    → Falling (walk_of l.feeder own) l.feeder.members l.chosen l.i
