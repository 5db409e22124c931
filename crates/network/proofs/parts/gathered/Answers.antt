-- The check finds this by itself. It is written so that a wrong union is refused with the two sets side by side.
use mathlib.Core.Path.{sym, ap, ◌∙◌}
use mathlib.Core.Bool.{Bool, cond}
use lib.Bits.{bit_or}
use Rattle.network.proofs.parts.gathered.Goals as goal

pub returns-then-touched : goal.returns-then-touched
returns-then-touched c =
    c.join.ensures ∙ ap (λ (t : Bool). cond t (bit_or c.args.m.0 c.args.part.0) c.args.m.0) (sym c.if-touched.true ∙ c.touched.ensures)
