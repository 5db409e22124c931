-- `cell` meets its contract: the price on the span's line, where the units are within the span. Assumes nothing.
use mathlib.Core.Path.{◌≡◌, sym, ap, ◌∙◌}
use mathlib.Core.Bool.{true}
use mathlib.Core.Option.{some}
use lib.IntN.{ℤ}
use Rattle.numbers.specs.Whole.{within}
use Rattle.problem.proofs.Prices.{cell_of}
use Rattle.rows.proofs.Lines.{outside, inside}
use Rattle.rows.proofs.span.Span.cell.Goals as goal

pub returns-else-within : goal.returns-else-within
returns-else-within c = sym (outside _ _ (sym c.within.ensures ∙ c.if-within.false))

pub returns-then-within : goal.returns-then-within
returns-then-within c =
    let in_span : within c.args.self.low.0 c.args.self.high.0 c.args.x.0 ≡ true = sym c.within.ensures ∙ c.if-within.true in
    c.cell_of.ensures ∙ ap (λ (z : ℤ). cell_of 1000000 (some z)) c.amount.ensures ∙ sym (inside c.args.self c.args.x.0 in_span)
