-- The search finds this alone. It is here so that what breaks it is shown beside what is wanted.
use Rattle.std.proofs.Common.{refl}
use Rattle.print.proofs.Page.at.Goals as goal

pub returns-clause-bytes : goal.returns-clause-bytes
returns-clause-bytes c = refl
