-- The search finds this alone. It is here so that what breaks it is shown beside what is wanted.
use Rattle.entry.proofs.clearing_clear.Goals as goal

pub returns-in-Err : goal.returns-in-Err
returns-in-Err c = rw (c.from.ensures, c.number.ensures, c.from-in-Err.ensures) c.in-Err.ensures.promise
