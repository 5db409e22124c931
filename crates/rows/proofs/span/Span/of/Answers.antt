-- `of` meets its contract: a point is a span of its own units alone. Assumes nothing.
use Rattle.rows.proofs.Gives.{point_is, span_is, terms_ranged}
use Rattle.rows.proofs.span.Span.of.Goals as goal
use Rattle.rows.proofs.span.Span.of.Goals.{in-Point, in-Span}

pub invariant_of-result : goal.invariant_of-result
invariant_of-result c =
    elim c.match-t.branch [
      | in-Point w ↦ rw w.result-is (record { ranged = terms_ranged _ _ _ _ _ (point_is _ _ _ w.in-Point.is) c.requires })
      | in-Span w ↦ rw w.result-is (record { ranged = terms_ranged _ _ _ _ _ (span_is _ _ _ _ _ w.in-Span.is) c.requires })
    ]

pub returns : goal.returns
returns c =
    elim c.match-t.branch [ in-Point w ↦ λ x. rw w.result-is (point_is _ _ _ w.in-Point.is x) | in-Span w ↦ λ x. rw w.result-is (span_is _ _ _ _ _ w.in-Span.is x) ]
