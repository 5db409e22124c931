-- The search finds this alone. It is here so that what breaks it is shown beside what is wanted.
use Rattle.std.proofs.Common.{◌≡◌, rules, pos}
use mir.Syntax.{w64}
use mir.Val.{to_z, of_z}
use Rattle.show.proofs.lines.Goals as goal

pub returns-in-Err-clause-refusal : goal.returns-in-Err-clause-refusal
returns-in-Err-clause-refusal c =
    let number : to_z w64 (of_z w64 c.into.result) ≡ pos c.number.result = search rules in
    let place : to_z w64 (of_z w64 c.into-in-Err.result) ≡ pos c.in-Err.refusal.place = search rules in
    rw (number, place, c.number.ensures) at c.line-in-Err.ensures.put
