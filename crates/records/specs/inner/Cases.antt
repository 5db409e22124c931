-- What each case of the enums holds, in the numbers and values of docs/RULES.md.
use Rattle.std.proofs.Math.Option.{Option, none, some}
use Rattle.std.specs.Prelude.{ℕ, ◌≡◌, ◌<◌, ◌⊎◌, pos, cond, eqb, List, [], ◌∷◌, Result, Ok, Err, MatchResult, ⊤}
use Rattle.numbers.specs.declared.Member.{Member}
use Rattle.numbers.specs.declared.Units.{Units}
use Rattle.numbers.specs.inner.Held.{member, units, price, slope}
use Rattle.problem.specs.Problem as P
use Rattle.records.specs.declared.Terms.{Terms}
use Rattle.records.specs.declared.Record.{Record}
use Rattle.records.specs.declared.Rule.{Rule}
use Rattle.records.specs.declared.Kind.{Kind}
use Rattle.records.specs.declared.Refusal.{Refusal}
use Rattle.records.specs.Records.{Entry, byte, units_at, fields_fit}
use Rattle.records.specs.Records.Entry.{link, offer, begins, fault}
use Rattle.records.specs.Refusals as R

unfoldable pub terms_of : P.Terms → Terms
terms_of (P.Terms.point x p) = Terms.Point (units x) (price p)
terms_of (P.Terms.span l u a b) = Terms.Span (units l) (units u) (slope a) (price b)

-- and back
unfoldable pub terms_in : Terms → P.Terms
terms_in (Terms.Point x p) = P.Terms.point x.0 p.0
terms_in (Terms.Span l u a b) = P.Terms.span l.0 u.0 a.0 b.0

-- a rule's number
unfoldable pub number_of : Rule → ℕ
number_of Rule.TooLong = 1
number_of Rule.NotWhole = 2
number_of Rule.UnknownKind = 3
number_of Rule.OutOfRange = 4
number_of Rule.NoOffer = 5
number_of Rule.WithoutOffer = 6
number_of Rule.TooManyOffers = 7
number_of Rule.ClosesRing = 9
number_of Rule.Apart = 10
number_of Rule.NoRoom = 11
number_of Rule.Impossible = 12
number_of Rule.Unpaired = 13
number_of Rule.BadSpan = 14

-- and back: the rule of a number, for the numbers of `number_of`
unfoldable pub rule_of : ℕ → Rule
rule_of k =
    cond (eqb k 1) Rule.TooLong (cond (eqb k 2) Rule.NotWhole (cond (eqb k 3) Rule.UnknownKind (cond (eqb k 4) Rule.OutOfRange
    (cond (eqb k 5) Rule.NoOffer (cond (eqb k 6) Rule.WithoutOffer (cond (eqb k 7) Rule.TooManyOffers (cond (eqb k 9) Rule.ClosesRing
    (cond (eqb k 10) Rule.Apart (cond (eqb k 11) Rule.NoRoom (cond (eqb k 12) Rule.Impossible (cond (eqb k 13) Rule.Unpaired Rule.BadSpan)))))))))))

unfoldable pub refusal_of : R.Refusal → Refusal
refusal_of f = record { rule = rule_of f.number; place = f.place }

-- and back
unfoldable pub refusal_in : Refusal → R.Refusal
refusal_in r = record { number = number_of r.rule; place = r.place }

-- a kind's number
unfoldable pub kind_number : Kind → ℕ
kind_number Kind.Link = 1
kind_number Kind.Point = 2
kind_number Kind.Member = 3
kind_number Kind.Flow = 4
kind_number Kind.Total = 5
kind_number Kind.Begin = 6
kind_number Kind.End = 7

-- a byte is a kind's number, or no kind has it
abbrev pub KindOf : ℕ → Result Kind Rule → Type 0
KindOf k r = MatchResult r (λ kind. kind_number kind ≡ k) (λ rule. (rule ≡ Rule.UnknownKind) × ((k < 1) ⊎ (7 < k)))

-- the bytes of record i; by themselves they are a file of one record
abbrev pub bytes_at : List ℕ → ℕ → List ℕ
bytes_at f i = byte f i 0 ∷ byte f i 1 ∷ byte f i 2 ∷ byte f i 3 ∷ byte f i 4 ∷ byte f i 5 ∷ byte f i 6 ∷ byte f i 7 ∷ []

-- the member and the units of such a record, if they are in range
unfoldable pub fields_of : List ℕ → Result (Member × Units) Rule
fields_of b = cond (fields_fit b 0) (Ok (member (byte b 0 1), units (units_at b 0))) (Err Rule.OutOfRange)

unfoldable pub reading_of : Entry → Result Record Rule
reading_of (link l) = Ok (Record.Link (member l.a) (member l.b) (units (pos l.capacity)))
reading_of (offer o) = Ok (Record.Offer (member o.member) (terms_of o.terms))
reading_of (begins j) = Ok (Record.Begins (member j))
reading_of (fault k) = Err (rule_of k)

-- what is found, unless it is refused
unfoldable pub unless : {A : Type 0} → A → Option R.Refusal → Result A Refusal
unless x none = Ok x
unless x (some f) = Err (refusal_of f)

abbrev pub verdict_of : Option R.Refusal → Result ⊤ Refusal
verdict_of = unless tt
