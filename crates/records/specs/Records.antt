-- docs/RULES.md, "Records in": from bytes to records.
use Rattle.std.specs.Prelude.{Bool, true, cond, not, ◌&&◌, ◌||◌, List, [], ◌∷◌, ℕ, zero, suc, ◌+◌, ◌*◌, ◌-◌, ◌/◌, leb, ltb, eqb, get_or, length, ℤ, pos, neg_ℤ, ◌+ℤ◌, ◌*ℤ◌}
use Rattle.std.specs.Int.Signed.{lt_z}
use Rattle.std.specs.Int.{w16, w32}
use Rattle.std.proofs.Common.{to_z}
use Rattle.numbers.specs.Whole.{within}
use Rattle.problem.specs.Problem.{Link, Terms, Offer}

-- a record is exactly one of a link, an offer, the first record of a span's offer, which names its member, or a fault, which has
-- its refusal's number
pub data Entry : Type 0 where
  link : Link → Entry
  offer : Offer → Entry
  begins : ℕ → Entry
  fault : ℕ → Entry

-- byte k of record i; the 16 bits from it on, and the 32 bits, low byte first
abbrev pub byte : List ℕ → ℕ → ℕ → ℕ
byte f i k = get_or f (8 * i + k) 0

abbrev pub two : List ℕ → ℕ → ℕ → ℕ
two f i k = byte f i k + 256 * byte f i (k + 1)

abbrev pub four : List ℕ → ℕ → ℕ → ℕ
four f i k = byte f i k + 256 * byte f i (k + 1) + 65536 * byte f i (k + 2) + 16777216 * byte f i (k + 3)

-- an offer's units in bytes 2 and 3, and its number in bytes 4 to 7, in two's complement
abbrev pub units_at : List ℕ → ℕ → ℤ
units_at f i = to_z w16 (two f i 2)

abbrev pub number_at : List ℕ → ℕ → ℤ
number_at f i = to_z w32 (four f i 4)

-- in range: a member's number, units, a price
abbrev pub is_member : ℕ → Bool
is_member j = leb 1 j && leb j 32

abbrev pub is_units : ℤ → Bool
is_units x = within (neg_ℤ (pos 2000)) (pos 2000) x

abbrev pub is_price : ℤ → Bool
is_price p = within (neg_ℤ (pos 1000000)) (pos 1000000) p

-- kind 1: lower member a, higher member b, zero, capacity, two zeros
unfoldable pub link_of : (a b z c y x : ℕ) → Entry
link_of a b z c y x =
    cond (leb 1 a && ltb a b && leb b 32 && eqb z 0 && leb c 40 && eqb y 0 && eqb x 0)
    (link (record { a = a; b = b; capacity = c })) (fault 4)

unfoldable pub link_at : List ℕ → ℕ → Entry
link_at f i = link_of (byte f i 1) (byte f i 2) (byte f i 3) (two f i 4) (byte f i 6) (byte f i 7)

-- kind 2: member, units, price
unfoldable pub point_of : ℕ → ℤ → ℤ → Entry
point_of j x p = cond (is_member j && is_units x && is_price p) (offer (record { member = j; terms = Terms.point x p })) (fault 4)

unfoldable pub point_at : List ℕ → ℕ → Entry
point_at f i = point_of (byte f i 1) (units_at f i) (number_at f i)

-- record i is of kind k and names member j
abbrev pub names : List ℕ → ℕ → ℕ → ℕ → Bool
names f i k j = eqb (byte f i 0) k && eqb (byte f i 1) j

-- 13, of a kind 6: its next record is missing or is not a kind 7 naming the same member
unfoldable pub unfinished : List ℕ → ℕ → Bool
unfinished f i = not (ltb (suc i) (length f / 8) && names f (suc i) 7 (byte f i 1))

-- 13, of a kind 7: it is not directly after a kind 6 naming the same member
unfoldable pub unbegun : List ℕ → ℕ → Bool
unbegun f zero = true
unbegun f (suc i) = not (names f i 6 (byte f (suc i) 1))

-- 14: l above u, or a price at either end out of range
unfoldable pub bad_span : (l u a b : ℤ) → Bool
bad_span l u a b = lt_z u l || not (is_price ((a *ℤ l) +ℤ b)) || not (is_price ((a *ℤ u) +ℤ b))

-- the member and the units of record i are in range
abbrev pub fields_fit : List ℕ → ℕ → Bool
fields_fit f i = is_member (byte f i 1) && is_units (units_at f i)

-- kind 6: member, l, b
unfoldable pub begin_at : List ℕ → ℕ → Entry
begin_at f i =
    cond (fields_fit f i)
    (cond (unfinished f i) (fault 13) (begins (byte f i 1))) (fault 4)

-- a span of member j
unfoldable pub span_of : ℕ → (l u a b : ℤ) → Entry
span_of j l u a b = cond (bad_span l u a b) (fault 14) (offer (record { member = j; terms = Terms.span l u a b }))

-- kind 7: member, u, a; l and b are those of the record before it
unfoldable pub span_at : List ℕ → ℕ → Entry
span_at f i =
    cond (fields_fit f i)
    (cond (unbegun f i) (fault 13) (span_of (byte f i 1) (units_at f (i - 1)) (units_at f i) (number_at f i) (number_at f (i - 1)))) (fault 4)

-- record i, kind before fields
unfoldable pub entry_at : List ℕ → ℕ → Entry
entry_at f i =
    cond (eqb (byte f i 0) 1) (link_at f i)
    (cond (eqb (byte f i 0) 2) (point_at f i)
    (cond (eqb (byte f i 0) 6) (begin_at f i)
    (cond (eqb (byte f i 0) 7) (span_at f i) (fault 3))))

-- the n records from record i on
unfoldable pub entries_from : List ℕ → ℕ → ℕ → List Entry
entries_from f i zero = []
entries_from f i (suc n) = entry_at f i ∷ entries_from f (suc i) n

-- a file's records, in the file's order
unfoldable pub entries : List ℕ → List Entry
entries f = entries_from f 0 (length f / 8)
