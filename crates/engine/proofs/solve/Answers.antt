-- The search finds these alone. They are here so that what breaks them is shown beside what is wanted.
use native.Mathlib.Omega.{arith}
use Rattle.engine.proofs.Passes.{made, solved}
use Rattle.engine.proofs.solve.Goals as goal

pub returns-then-impossible-clause-unsolved : goal.returns-then-impossible-clause-unsolved
returns-then-impossible-clause-unsolved c =
    record {
      none = c.if-impossible.true;
      made = made _ _ _ _ _ c.upward.ensures (c.choose-chosen.ensures _ c.upward.ensures.kept) c.settle-trades.ensures;
    }

pub returns-else-impossible-clause-solved : goal.returns-else-impossible-clause-solved
returns-else-impossible-clause-solved c =
    solved _ _ _ _ _ c.upward.ensures (c.choose-chosen.ensures _ c.upward.ensures.kept) c.settle-trades.ensures (omega (arith, c.if-impossible.false))
