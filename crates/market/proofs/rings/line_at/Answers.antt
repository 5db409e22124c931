-- `line_at` meets its contract: a record that is read as a link has a link's numbers. Assumes nothing.
use mathlib.Core.Path.{◌≡◌, sym, ap, ◌∙◌}
use native.Mathlib.Omega.{arith}
use Rattle.std.specs.Prelude.{Ok}
use Rattle.records.specs.Records.{entry_at}
use Rattle.records.specs.declared.Record.{Record}
use Rattle.records.specs.inner.Cases.{reading_of}
use Rattle.records.proofs.Entries.{not_link}
use Rattle.market.proofs.LinkRecords.{read_link, read_units, read_fits}
use Rattle.market.proofs.rings.line_at.Goals as goal
use Rattle.market.proofs.rings.line_at.Goals.{In-Link}

pub returns-in_default : goal.returns-in_default
returns-in_default c = not_link _ _ c.read_at.ensures (λ a b k. c.in_default.not-Ok _)

pub returns-in_default-record : goal.returns-in_default-record
returns-in_default-record c =
    not_link _ _ c.read_at.ensures
    (λ a b k e.
    let same : c.in-Ok.record ≡ Record.Link a b k = cc (sym c.in-Ok.is ∙ e) in
    c.in_default-record.not-Link a b k same)

is_link : (c : In-Link) → reading_of (entry_at c.args.file.now c.args.i) ≡ Ok (Record.Link c.in-Link.a c.in-Link.b c.in-Link.capacity)
is_link c = sym c.read_at.ensures ∙ c.in-Ok.is ∙ ap Ok c.in-Link.is

pub invariant_of-ends : goal.invariant_of-ends
invariant_of-ends c =
    let f = read_fits _ _ _ _ _ (is_link (goal.at.invariant_of-ends c).In-Link) in
    record { numbered = ((f.low, omega (arith, f.below, f.high)), (omega (arith, f.low, f.below), f.high)) }

pub invariant_of-result : goal.invariant_of-result
invariant_of-result c =
    let is = is_link (goal.at.invariant_of-result c).In-Link in
    let f = read_fits _ _ _ _ _ is in
    record { below = f.below; counted = read_units _ _ _ _ _ is; small = f.small }

pub returns : goal.returns
returns c = read_link _ _ _ _ _ (is_link (goal.at.returns c).In-Link)
