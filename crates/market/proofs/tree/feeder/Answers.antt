-- `feeder` meets its contract: where a member is not reached that is refusal 10, else the walk's steps are the market's positions.
-- Assumes nothing.
use mathlib.Core.Path.{refl, ap, ◌∙◌}
use native.Mathlib.Omega.{arith}
use Rattle.std.proofs.Math.Option.{some}
use Rattle.std.proofs.lemmas.Option.{MatchOption-at_some, MatchOption-at_none}
use Rattle.problem.proofs.Tree.{Tree}
use Rattle.records.specs.inner.Cases.{rule_of}
use Rattle.market.specs.inner.Lines.{kept, market_on}
use Rattle.market.proofs.Arrays.{mask_small, apart_some, apart_none, tree_none, from_in, steps_laid}
use Rattle.market.proofs.Kept.{capacity_low}
use Rattle.market.proofs.Laid.{positions_sound}
use Rattle.market.proofs.Verdicts.{last_decided, last_left}
use Rattle.market.proofs.tree.feeder.Goals as goal
use Rattle.market.proofs.tree.feeder.Goals.{In_default}

pub lowest_missing-requires : goal.lowest_missing-requires
lowest_missing-requires c =
    let s = c.requires in
    let w = c.walk-walked.result in
    (s.1, mask_small c.args.n.0 _ s.0 s.1 s.2 _ w.step w.count w.reached.0 c.neighbours.ensures c.walk-walked.ensures.0)

pub returns-in-Some : goal.returns-in-Some
unfolding rule_of
returns-in-Some c =
    let s = c.requires in
    let w = c.walk-walked.result in
    let missing = MatchOption-at_some _ _ _ c.in-Some.is c.lowest_missing.ensures in
    last_decided 10 _ _
    (apart_some c.args.n.0 _ s.0 s.1 s.2 _ w.step w.count w.reached.0 c.neighbours.ensures c.walk-walked.ensures.0 _ missing.2 (omega (arith, missing.0, missing.1))
    ∙ ap some (omega (arith, missing.0, c.from.ensures)))

-- all are reached
tree : (c : In_default) → Tree (market_on c.args.n.0 (kept c.args.links.now))
tree c =
    let s = c.requires in
    let w = c.walk-walked.result in
    let missing = MatchOption-at_none _ _ c.in_default.is c.lowest_missing.ensures in
    tree_none c.args.n.0 _ s.0 s.1 s.2 _ w.step w.count w.reached.0 c.neighbours.ensures c.walk-walked.ensures.0 _ missing (omega arith) s.3

pub positions-position-requires : goal.positions-position-requires
positions-position-requires c =
    let s = c.requires in
    let w = c.walk-walked.result in
    (s.1, from_in c.args.n.0 _ s.0 s.1 s.2 _ w.step w.count w.reached.0 c.neighbours.ensures c.walk-walked.ensures.0 (tree (goal.at.positions-position-requires c).In_default))

pub invariant_of-result : goal.invariant_of-result
invariant_of-result c =
    let s = c.requires in
    let w = c.walk-walked.result in
    let p = c.positions-position.ensures in
    let R = tree (goal.at.invariant_of-result c).In_default in
    let laid = steps_laid c.args.n.0 _ s.0 s.1 s.2 _ w.step w.count w.reached.0 c.neighbours.ensures c.walk-walked.ensures.0 R c.positions-position.result p.at p.past in
    record { sound = positions_sound _ R s.1 (capacity_low c.args.links.now) c.positions-position.result laid }

pub returns : goal.returns
returns c =
    let s = c.requires in
    let w = c.walk-walked.result in
    let p = c.positions-position.ensures in
    let missing = MatchOption-at_none _ _ c.in_default.is c.lowest_missing.ensures in
    let R = tree (goal.at.returns c).In_default in (
      last_left 10 _ (apart_none c.args.n.0 _ s.0 s.1 s.2 _ w.step w.count w.reached.0 c.neighbours.ensures c.walk-walked.ensures.0 _ missing (omega arith)),
      record {
        members = refl;
        positions = steps_laid c.args.n.0 _ s.0 s.1 s.2 _ w.step w.count w.reached.0 c.neighbours.ensures c.walk-walked.ensures.0 R c.positions-position.result p.at p.past;
      },
    )
