-- docs/RULES.md, "Records in": the market that a file's records describe.
use Rattle.std.specs.Prelude.{List, [], ◌∷◌, ℕ, max}
use Rattle.problem.specs.Problem.{Link, Offer, Market}
use Rattle.records.specs.Records.{Entry, entries}
use Rattle.records.specs.Records.Entry.{link, offer, begins, fault}

-- n: the highest member number in any record
unfoldable pub members_of : List Entry → ℕ
members_of [] = 0
members_of (link l ∷ es) = max l.a (max l.b (members_of es))
members_of (offer o ∷ es) = max o.member (members_of es)
members_of (begins j ∷ es) = max j (members_of es)
members_of (fault k ∷ es) = members_of es

unfoldable pub links_of : List Entry → List Link
links_of [] = []
links_of (link l ∷ es) = l ∷ links_of es
links_of (offer o ∷ es) = links_of es
links_of (begins j ∷ es) = links_of es
links_of (fault k ∷ es) = links_of es

unfoldable pub offers_of : List Entry → List Offer
offers_of [] = []
offers_of (link l ∷ es) = offers_of es
offers_of (offer o ∷ es) = o ∷ offers_of es
offers_of (begins j ∷ es) = offers_of es
offers_of (fault k ∷ es) = offers_of es

unfoldable pub market_of : List ℕ → Market
market_of f = record { members = members_of (entries f); links = links_of (entries f); offers = offers_of (entries f) }
