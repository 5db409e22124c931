-- `links` meets its contract. Assumes nothing.
use mathlib.Core.Path.{◌≡◌, refl, sym, ap₂, ◌∙◌, subst}
use mathlib.Core.List.{List}
use Prim.Native.Nat.{◌/◌, ◌≤◌}
use lib.Bits.{bit_or}
use lib.ListN.{length}
use native.Mathlib.Omega.{arith}
use borrow.Author.Rules.{rules}
use Rattle.std.proofs.lemmas.Option.{MatchOption-at_some, MatchOption-at_none}
use Rattle.records.specs.Records.{entry_at}
use Rattle.records.specs.Records.Entry.{link}
use Rattle.records.specs.inner.Cases.{rule_of}
use Rattle.market.specs.declared.line.Line.{Line}
use Rattle.market.proofs.Scan.{Pass, pass_start, pass_skip, pass_end, searched_none, searched_more, pass_hit, room, pass_link}
use Rattle.market.proofs.Verdicts.{decided, left_over}
use Rattle.market.specs.inner.Lines.{link_in}
use Rattle.market.proofs.rings.links.Goals as goal
use Rattle.market.proofs.rings.links.Goals.{In-Some, then-records-test+in-Some+then-parts-test+then-holds_both, else-records-test}

pub records-init : goal.records-init
records-init c = subst (λ (s : List Line). Pass c.args.file.now _ s (length c.args.file.now / 8) 0) (sym c.new-links.ensures) (pass_start _ _)

pub records-preserved-in_default : goal.records-preserved-in_default
records-preserved-in_default c = pass_skip c.records.invariant c.records-test.true (MatchOption-at_none _ _ c.in_default.is c.line_at.ensures)

pub parts-init : goal.parts-init
parts-init c = searched_none _ _ _ _ (c.join-m.ensures ∙ ap₂ bit_or c.only.ensures c.only-in-records.ensures)

-- record i is a link
is_link : (c : In-Some) → entry_at c.args.file.now c.records.i ≡ link (link_in c.in-Some.line)
is_link c = MatchOption-at_some _ _ _ c.in-Some.is c.line_at.ensures

pub parts-preserved : goal.parts-preserved
parts-preserved c = searched_more _ _ _ _ _ _ _ refl (sym c.holds_both.ensures ∙ c.if-holds_both.false) c.gathered-m.ensures c.parts.invariant

pub merged-requires : goal.merged-requires
merged-requires c =
    let is = is_link (goal.at.merged-requires c).In-Some in
    let wide : c.len.result ≤ length c.records.parts = search rules in
    omega (arith, c.len-in-records.ensures.value, room c.records.invariant c.records-test.true c.in-Some.line is _ _ _ c.len.ensures.value wide c.parts-test.false c.parts.auto.part-index-end c.parts.invariant)

pub push-requires : goal.push-requires
push-requires c =
    let is = is_link (goal.at.push-requires c).In-Some in
    let wide : c.len.result ≤ length c.records.parts = search rules in
    (omega arith, room c.records.invariant c.records-test.true c.in-Some.line is _ _ _ c.len.ensures.value wide c.parts-test.false c.parts.auto.part-index-end c.parts.invariant)

pub records-preserved : goal.records-preserved
records-preserved c =
    let is = is_link (goal.at.records-preserved c).In-Some in
    let wide : c.len.result ≤ length c.records.parts = search rules in
    pass_link c.records.invariant c.records-test.true c.in-Some.line is _ _ _ c.len.ensures.value wide c.parts-test.false c.parts.auto.part-index-end c.parts.invariant _ _ _ c.push.ensures.items
    c.len-in-records.ensures.value c.merged.ensures

pub returns-in-Some-closing : goal.returns-in-Some-closing
unfolding rule_of
returns-in-Some-closing c =
    elim c.records-test.branch [
      | then-records-test+in-Some+then-parts-test+then-holds_both w ↦
          let is = MatchOption-at_some _ _ _ w.in-Some.is w.line_at.ensures in
          let wide : w.len.result ≤ length c.records.parts = search rules in
          let at : c.records.i ≡ c.in-Some-closing.place = cc (sym w.closing-is ∙ c.in-Some-closing.is) in
          rw (← at) (decided 9 _ _ _ (pass_hit c.records.invariant w.records-test.true w.in-Some.line is _ _ w.len.ensures.value wide w.parts-test.true (sym w.holds_both.ensures ∙ w.if-holds_both.true)))
      | else-records-test w ↦ cc (sym c.in-Some-closing.is ∙ w.closing-is)
    ]

pub returns : goal.returns
returns c =
    elim c.records-test.branch [
      | then-records-test+in-Some+then-parts-test+then-holds_both w ↦ absurd (c.in_default-closing.not-Some _ w.closing-is)
      | else-records-test w ↦
          let e = pass_end _ _ _ _ _ w.records-test.false c.records.invariant in
          (left_over 9 _ _ e.0, e)
    ]
