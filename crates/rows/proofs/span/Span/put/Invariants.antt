-- `put` meets its contract. The loop's invariant: the cells from start on that are below end are those that the span
-- covers; those below x are the higher of what they held and what the span gives, those from x on are as they were, and p is
-- the span's price at cell x. Assumes nothing.
use lib.ListN.{length}
use Rattle.rows.proofs.Lines.{Covered, Putting}
use Rattle.rows.proofs.span.Span.put.Given as goal

abbrev pub invariant-loop-x : goal.invariant-loop-x
invariant-loop-x l = Covered l.fn.self l.fn.top.0 (length l.fn.row) l.start l.end × Putting l.fn.self l.fn.top.0 l.start l.x l.p.0 l.fn.row l.row
