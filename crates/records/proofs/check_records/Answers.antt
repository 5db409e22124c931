-- `check_records` meets its contract: the length's refusals first, then the first faulty record's.
use mathlib.Core.Path.{refl, sym, ap, ◌∙◌}
use native.Mathlib.Nat.{sub-zero}
use borrow.Author.Tests.{lt-ltb, le-ltb, eq-eqb, ne_eqb}
use Rattle.records.specs.Records.{entries}
use Rattle.records.specs.Refusals.{refusal, ◌otherwise◌, place_if, file_limit, too_long, not_whole, unsound}
use Rattle.records.specs.inner.Cases.{rule_of, refusal_of, unless, verdict_of}
use Rattle.records.proofs.Entries.{none_left, refused_here, no_fault_here}
use Rattle.records.proofs.check_records.Goals as goal

pub returns-then-len-gt-FILE_LIMIT : goal.returns-then-len-gt-FILE_LIMIT
unfolding unless refusal_of rule_of unsound refusal ◌otherwise◌ place_if too_long
returns-then-len-gt-FILE_LIMIT c = simp (lt-ltb file_limit _ c.if-len-gt-FILE_LIMIT.true)

pub returns-then-len-ne0 : goal.returns-then-len-ne0
unfolding unless refusal_of rule_of unsound refusal ◌otherwise◌ place_if too_long not_whole
returns-then-len-ne0 c = simp (le-ltb file_limit _ c.if-len-gt-FILE_LIMIT.false, ne_eqb _ 0 c.if-len-ne0.true) refl

pub loop-i-init : goal.loop-i-init
unfolding unsound refusal ◌otherwise◌ place_if too_long not_whole entries
loop-i-init c = simp (le-ltb file_limit _ c.if-len-gt-FILE_LIMIT.false, eq-eqb _ 0 c.if-len-ne0.false, sub-zero)

pub returns-in-Err : goal.returns-in-Err
returns-in-Err c = sym (ap verdict_of c.loop-i.invariant ∙ refused_here _ _ _ _ c.loop-i-test.true c.in-Err.ensures _ refl)

pub loop-i-preserved : goal.loop-i-preserved
loop-i-preserved c = c.loop-i.invariant ∙ no_fault_here _ _ _ _ c.loop-i-test.true c.read_at.ensures c.in_default.not-Err

pub returns : goal.returns
unfolding unless
returns c = sym (ap verdict_of (c.loop-i.invariant ∙ none_left _ _ _ c.loop-i-test.false))
