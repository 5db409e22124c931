-- `market` meets its contract: each check leaves the file to the next. Assumes nothing.
use mathlib.Core.Path.{◌≡◌, sym, ap, ◌∙◌, subst, subst₂}
use mathlib.Core.List.{[]}
use native.Mathlib.Omega.{arith}
use Rattle.std.proofs.Math.Option.{none}
use Rattle.std.proofs.lemmas.Result.{err_from_is_err_and}
use Rattle.problem.proofs.Tree.{Within, Open}
use Rattle.records.specs.Records.{entries}
use Rattle.records.specs.Refusals.{unsound}
use Rattle.records.specs.Market.{links_of}
use Rattle.records.specs.inner.Cases.{verdict_of}
use Rattle.records.proofs.Entries.{sound_short}
use Rattle.market.specs.Refusals.{file_refusal}
use Rattle.market.specs.inner.Lines.{kept}
use Rattle.market.proofs.Top.{members_few}
use Rattle.market.proofs.LinkRecords.{links_within}
use Rattle.market.proofs.Ringless.{ringless}
use Rattle.market.proofs.Verdicts.{records_sound, records_refused, records_left, finds_last, only_10, same_feeder}
use Rattle.market.proofs.market.Goals as goal
use Rattle.market.proofs.market.Goals.{In_ok-check_records, In_ok-links}

pub returns-in_err-check_records : goal.returns-in_err-check_records
unfolding file_refusal
returns-in_err-check_records c =
    let p = err_from_is_err_and c.from_residual.result c.from_residual.ensures.1 in
    rw (p.1, p.2) (records_refused _ _ _ (sym c.in_err-check_records.was ∙ c.check_records.ensures))

read : (c : In_ok-check_records) → unsound c.args.file.now ≡ none
read c = records_sound _ (sym c.in_ok-check_records.was ∙ c.check_records.ensures)

pub offers-requires : goal.offers-requires
offers-requires c = sound_short _ (read (goal.at.offers-requires c).In_ok-check_records)

pub returns-in_err-tally : goal.returns-in_err-tally
returns-in_err-tally c =
    let p = err_from_is_err_and c.from_residual-in_err-tally.result c.from_residual-in_err-tally.ensures.1 in
    rw (p.1, p.2) (ap verdict_of (records_left _ (read (goal.at.returns-in_err-tally c).In_ok-check_records)) ∙ c.in_err-tally.ensures)

pub links-requires : goal.links-requires
links-requires c = sound_short _ (read (goal.at.links-requires c).In_ok-check_records)

pub returns-in_err-links : goal.returns-in_err-links
returns-in_err-links c =
    let p = err_from_is_err_and c.from_residual-in_err-links.result c.from_residual-in_err-links.ensures.1 in
    rw (p.1, p.2) (ap verdict_of (records_left _ (read (goal.at.returns-in_err-links c).In_ok-check_records) ∙ c.in_ok-tally.ensures.0) ∙ c.in_err-links.ensures)

pub feeder-requires : goal.feeder-requires
feeder-requires c =
    let n = c.in_ok-tally.ensures.1 in
    let all : kept c.deref.result.now ≡ links_of (entries c.args.file.now) = ap kept c.deref.ensures.0 ∙ c.in_ok-links.ensures.1.1 in
    (n.1, omega (arith, n.0, members_few c.args.file.now), subst₂ Within (sym n.0) (sym all) (links_within _), subst (Open []) (sym all) (ringless _ c.in_ok-links.ensures.1.0))

pub returns : goal.returns
returns c =
    let n = c.in_ok-tally.ensures.1 in
    let all : kept c.deref.result.now ≡ links_of (entries c.args.file.now) = ap kept c.deref.ensures.0 ∙ c.in_ok-links.ensures.1.1 in
    finds_last _ _ _ _
    (records_left _ (read (goal.at.returns c).In_ok-check_records) ∙ c.in_ok-tally.ensures.0 ∙ c.in_ok-links.ensures.0 ∙ sym (only_10 _ _ _ n.0 all))
    (same_feeder _ _ _ n.0 all) c.feeder.ensures
