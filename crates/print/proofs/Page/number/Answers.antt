-- A number's sign, and then its digits.
use Rattle.std.proofs.Common.{◌++◌, ap, ◌∙◌, nat_abs}
use Rattle.std.specs.Fmt.{decimal}
use mir.Facts.{to_z-of_z}
use Rattle.print.proofs.Puts.{put_then, below_zero, from_zero}
use Rattle.print.proofs.Page.number.Goals as goal
use Rattle.print.proofs.Page.number.Goals.{then-n-lt0, else-n-lt0}

pub returns-clause-put : goal.returns-clause-put
returns-clause-put c =
    let n = to_z-of_z c.ranges.n in
    let digits = c.as_bytes.ensures.value ∙ c.format.ensures.text ∙ ap decimal (c.unsigned_abs.ensures.value ∙ ap nat_abs n) in
    let both = put_then c.text.ensures.put c.text-2.ensures.put in
    let put = rw digits at both in
    elim c.if-n-lt0.branch [
      | then-n-lt0 w ↦ rw (ap (λ r. r.now ++ decimal (nat_abs c.args.n)) w.sign-is ∙ below_zero c.args.n (rw n at w.if-n-lt0.true)) at put
      | else-n-lt0 w ↦ rw (ap (λ r. r.now ++ decimal (nat_abs c.args.n)) w.sign-is ∙ from_zero c.args.n (rw n at w.if-n-lt0.false)) at put
    ]
