-- `allocate` meets its contract: what the engine leaves of the market is its outcome.
use Rattle.clearing.proofs.Solved.{best_small, unsolved_left, settles, cleared_left}
use Rattle.clearing.proofs.allocate.Goals as goal

pub returns-in_default-clause-outcome : goal.returns-in_default-clause-outcome
returns-in_default-clause-outcome c m H = unsolved_left H c.solve.result c.solve.ensures.unsolved c.in_default.not-Ok c.args.answer.now

pub total_of-total-requires : goal.total_of-total-requires
total_of-total-requires c = let S = c.in-Ok.ensures.solved in (S.some, best_small c.requires.held.1 S)

pub returns-clause-outcome : goal.returns-clause-outcome
returns-clause-outcome c m H =
    let S = c.in-Ok.ensures.solved in
    cleared_left H S _ _ _ c.total_of-total.ensures (c.write.ensures _ _ (settles H S))

pub write-requires-clause-settles : goal.write-requires-clause-settles
write-requires-clause-settles c = (_, _, settles c.requires.held.1 c.in-Ok.ensures.solved)
