-- docs/RULES.md, "Refusals": refusals 5 to 10, and the first of 1 to 10, 13 and 14 that applies.
use Rattle.std.specs.Prelude.{Bool, true, false, cond, not, List, [], ◌∷◌, ℕ, suc, ◌+◌, ltb, eqb, length}
use Rattle.std.proofs.Math.Option.{Option, none, some}
use Rattle.problem.specs.Problem.{Offer, Market, lowest, joined}
use Rattle.records.specs.Records.{Entry, entries}
use Rattle.records.specs.Records.Entry.{link, offer, begins, fault}
use Rattle.records.specs.Refusals.{Refusal, refusal, ◌otherwise◌, place_if, unsound}
use Rattle.records.specs.Market.{links_of, market_of}

-- the lowest member from 1 to n that passes
unfoldable pub lowest_member : (ℕ → Bool) → ℕ → Option ℕ
lowest_member p n = let k = lowest (λ i. p (suc i)) n in place_if (ltb k n) (suc k)

-- the place of the first of the records es that passes, seen together with the records before it (the latest first); the first of es has the place i
unfoldable pub first_record : (List Entry → Entry → Bool) → ℕ → List Entry → List Entry → Option ℕ
first_record p i earlier [] = none
first_record p i earlier (e ∷ es) = elim (p earlier e) [ true ↦ some i | false ↦ first_record p (suc i) (e ∷ earlier) es ]

-- the number of member j's offers
unfoldable pub offers_by : ℕ → List Offer → ℕ
offers_by j [] = 0
offers_by j (o ∷ os) = cond (eqb j o.member) 1 0 + offers_by j os

-- 5: no offer, neither point nor span
unfoldable pub no_offer : Market → Option ℕ
no_offer m = place_if (eqb (length m.offers) 0) 0

-- 6: a member from 1 to n has no offer
unfoldable pub without : Market → Option ℕ
without m = lowest_member (λ j. eqb (offers_by j m.offers) 0) m.members

-- 7: a member has more than 64 offers, each entry counted, repeated or not
unfoldable pub too_many : Market → Option ℕ
too_many m = lowest_member (λ j. ltb 64 (offers_by j m.offers)) m.members

-- 9: a link joins members already joined by earlier links
unfoldable pub closes : List Entry → Entry → Bool
closes earlier (link l) = joined (links_of earlier) l.a l.b
closes earlier (offer o) = false
closes earlier (begins j) = false
closes earlier (fault k) = false

-- 10: a member is not joined to member 1
unfoldable pub apart : Market → Option ℕ
apart m = lowest_member (λ j. not (joined m.links 1 j)) m.members

-- refusals 5 to 10, of which 8 is never given: the first that applies, said from the last check back, since each check of the
-- code goes on to the next
abbrev pub from10 : List ℕ → Option Refusal
from10 f = refusal 10 (apart (market_of f))

abbrev pub from9 : List ℕ → Option Refusal
from9 f = refusal 9 (first_record closes 0 [] (entries f)) otherwise from10 f

abbrev pub from7 : List ℕ → Option Refusal
from7 f = refusal 7 (too_many (market_of f)) otherwise from9 f

abbrev pub from6 : List ℕ → Option Refusal
from6 f = refusal 6 (without (market_of f)) otherwise from7 f

abbrev pub from5 : List ℕ → Option Refusal
from5 f = refusal 5 (no_offer (market_of f)) otherwise from6 f

-- refusals 1 to 10, 13 and 14: the first that applies
unfoldable pub file_refusal : List ℕ → Option Refusal
file_refusal f = unsound f otherwise from5 f
