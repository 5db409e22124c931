-- `counted` meets its contract, by the four cases of a record. Assumes nothing.
use mathlib.Core.Path.{sym, ap, ◌∙◌}
use Rattle.std.specs.Prelude.{Ok}
use Rattle.records.proofs.Entries.{entry_fits}
use Rattle.market.proofs.Tables.{offer_member, counts_link, counts_offer, counts_begins, counts_fault}
use Rattle.market.proofs.offers.Tally.counted.Goals as goal

pub offered-requires : goal.offered-requires
offered-requires c =
    let m = offer_member _ _ _ _ (sym c.read_at.ensures ∙ c.in-Ok-Offer.is ∙ ap Ok c.in-Ok-Offer.field-0-is) in
    (m.0, m.1, c.requires.1, c.requires.2)

pub returns-in-Ok-Link : goal.returns-in-Ok-Link
returns-in-Ok-Link c =
    counts_link _ _ _ _ _ _ _ (sym c.read_at.ensures ∙ c.in-Ok-Link.is ∙ ap Ok c.in-Ok-Link.field-0-is) c.named.ensures c.named-in-Ok-Link.ensures

pub returns-in-Ok-Offer : goal.returns-in-Ok-Offer
returns-in-Ok-Offer c = counts_offer _ _ _ _ _ (sym c.read_at.ensures ∙ c.in-Ok-Offer.is ∙ ap Ok c.in-Ok-Offer.field-0-is) c.offered.ensures

pub returns-in-Ok-Begins : goal.returns-in-Ok-Begins
returns-in-Ok-Begins c = counts_begins _ _ _ _ (sym c.read_at.ensures ∙ c.in-Ok-Begins.is ∙ ap Ok c.in-Ok-Begins.field-0-is) c.named-in-Ok-Begins.ensures

pub returns-in-Err : goal.returns-in-Err
returns-in-Err c = counts_fault _ _ (entry_fits _ _) _ (sym c.read_at.ensures ∙ c.in-Err.is)
