-- n, the highest member number in any record, is at most 32. Assumes nothing.
use mathlib.Core.Path.{◌≡◌}
use mathlib.Core.List.{List, [], ◌∷◌}
use Prim.Native.Nat.{ℕ, ◌≤◌, max}
use native.Mathlib.Omega.{arith}
use Rattle.records.specs.Records.{Entry, entries}
use Rattle.records.specs.Records.Entry.{link, offer, begins, fault}
use Rattle.records.specs.Market.{members_of, market_of}
use Rattle.records.proofs.Entries.{Fits, by_record}

-- a record's members, and those of the records after it
pub members_apart : (e : Entry) (es : List Entry) → members_of (e ∷ es) ≡ max (members_of (e ∷ [])) (members_of es)
unfolding members_of
members_apart (link l) es = omega arith
members_apart (offer o) es = omega arith
members_apart (begins j) es = omega arith
members_apart (fault k) es = omega arith

few_more : (e : Entry) (es : List Entry) → Fits e → members_of es ≤ 32 → members_of (e ∷ es) ≤ 32
unfolding members_of
few_more (link l) es h ih = omega (arith, h.below, h.high)
few_more (offer o) es h ih = omega (arith, h.member.1)
few_more (begins j) es h ih = omega (arith, h.1)
few_more (fault k) es h ih = ih

pub members_few : (f : List ℕ) → members_of (entries f) ≤ 32
unfolding members_of
members_few f = by_record (λ es. members_of es ≤ 32) (omega arith) few_more f

pub market_few : (f : List ℕ) → (market_of f).members ≤ 32
unfolding market_of
market_few f = members_few f
