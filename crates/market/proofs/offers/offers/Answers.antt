-- `offers` meets its contract: the tally, and what it says of refusals 5 to 7. Assumes nothing.
use mathlib.Core.Path.{sym, ap, ◌∙◌}
use native.Mathlib.Omega.{arith}
use Rattle.std.proofs.Math.Option.{some}
use Rattle.std.proofs.lemmas.Option.{MatchOption-at_some, MatchOption-at_none}
use Rattle.records.specs.inner.Cases.{rule_of, verdict_of}
use Rattle.market.proofs.Tables.{tallying_none, tallying_more, tallying_done, without_is, too_many_is}
use Rattle.market.proofs.Verdicts.{decided, left_over, no_offers, some_offers, member_of_offer}
use Rattle.market.proofs.offers.offers.Goals as goal

pub loop-i-init : goal.loop-i-init
loop-i-init c = tallying_none _

pub loop-i-preserved : goal.loop-i-preserved
loop-i-preserved c = tallying_more _ _ _ _ c.loop-i.invariant _ c.loop-i-test.true c.counted.ensures

pub returns-then-t-eq0 : goal.returns-then-t-eq0
unfolding rule_of
returns-then-t-eq0 c =
    let T = tallying_done _ _ _ _ c.loop-i.invariant c.loop-i-test.false (omega arith) in
    decided 5 _ _ 0 (no_offers c.args.file.now _ T.offers c.if-t-eq0.true)

pub returns-in-Some : goal.returns-in-Some
unfolding rule_of
returns-in-Some c =
    let T = tallying_done _ _ _ _ c.loop-i.invariant c.loop-i-test.false (omega arith) in
    let without = MatchOption-at_some _ _ _ (sym c.lowest_outside.ensures.first ∙ c.in-Some.is) (without_is _ _ T) in
    ap verdict_of (left_over 5 _ _ (some_offers c.args.file.now _ T.offers c.if-t-eq0.false)) ∙ decided 6 _ _ _ (without ∙ ap some (sym c.member_place.ensures))

pub returns-in-Some-lowest_outside : goal.returns-in-Some-lowest_outside
unfolding rule_of
returns-in-Some-lowest_outside c =
    let T = tallying_done _ _ _ _ c.loop-i.invariant c.loop-i-test.false (omega arith) in
    let none-without = MatchOption-at_none _ _ (sym c.lowest_outside.ensures.first ∙ c.in_default.is) (without_is _ _ T) in
    let many = MatchOption-at_some _ _ _ (sym c.lowest_outside-2.ensures.first ∙ c.in-Some-lowest_outside.is) (too_many_is _ _ T) in
    ap verdict_of (left_over 5 _ _ (some_offers c.args.file.now _ T.offers c.if-t-eq0.false) ∙ left_over 6 _ _ none-without)
    ∙ decided 7 _ _ _ (many ∙ ap some (sym c.member_place-in-Some-lowest_outside.ensures))

pub returns : goal.returns
returns c =
    let T = tallying_done _ _ _ _ c.loop-i.invariant c.loop-i-test.false (omega arith) in
    let none-without = MatchOption-at_none _ _ (sym c.lowest_outside.ensures.first ∙ c.in_default.is) (without_is _ _ T) in
    let none-many = MatchOption-at_none _ _ (sym c.lowest_outside-2.ensures.first ∙ c.in_default-lowest_outside.is) (too_many_is _ _ T) in (
      left_over 5 _ _ (some_offers c.args.file.now _ T.offers c.if-t-eq0.false) ∙ left_over 6 _ _ none-without ∙ left_over 7 _ _ none-many,
      (T.members, omega (arith, T.members, member_of_offer c.args.file.now (λ e. c.if-t-eq0.false (T.offers ∙ e)))),
    )
