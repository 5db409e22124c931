-- Laws on a file's records: what is left from a place on, what a reading says of its record, which numbers a record has,
-- and what a sound file's records are. Assumes nothing.
use mathlib.Core.Path.{◌≡◌, refl, sym, ap, ◌∙◌, subst}
use Rattle.std.specs.Prelude.{Result, Ok, Err}
use mathlib.Core.Bool.{Bool, true, false, cond, ◌&&◌}
use mathlib.Core.List.{List, [], ◌∷◌}
use mathlib.Core.Logic.{◌⊎◌, inl, inr}
use mathlib.Core.Option.{Option, none, some}
use Prim.Native.Nat.{ℕ, zero, suc, ◌+◌, ◌-◌, ◌/◌, ◌<◌, ◌≤◌}
use native.Mathlib.Omega.{arith}
use native.Mathlib.Numerals.{add-one}
use lib.Dec.{leb, ltb, eqb}
use lib.ListN.{length}
use lib.IntN.{ℤ, pos, neg_ℤ, nat_abs, ◌+ℤ◌, ◌*ℤ◌}
use borrow.Author.Tests.{ltb-false}
use Rattle.numbers.specs.declared.Member.{Member}
use Rattle.numbers.specs.declared.Units.{Units}
use Rattle.std.proofs.lemmas.Bool.Decides.{nat_tests}
use Rattle.std.proofs.lemmas.Bool.{and_parts, cond_both}
use Rattle.numbers.proofs.Tests.{within_true}
use Rattle.problem.specs.Problem as P
use Rattle.problem.specs.Problem.{Link, Offer, worth}
use Rattle.problem.proofs.Prices.{Limited}
use Rattle.problem.proofs.Spans.{point_limited, span_limited}
use Rattle.records.specs.declared.Terms.{Terms}
use Rattle.records.specs.declared.Record.{Record}
use Rattle.records.specs.declared.Rule.{Rule}
use Rattle.records.specs.Records.{Entry, byte, two, units_at, number_at, is_member, is_units, is_price, fields_fit, link_of, point_of, unfinished, unbegun, bad_span, span_of, link_at, point_at, begin_at, span_at, entry_at, entries_from, entries}
use Rattle.records.specs.Records.Entry.{link, offer, begins, fault}
use Rattle.records.specs.Refusals.{Refusal, refusal, ◌otherwise◌, place_if, file_limit, too_long, faulty, unsound}
use Rattle.records.proofs.Rules.{rule_of_number, number_of_rule}
use Rattle.records.specs.inner.Cases.{terms_of, terms_in, number_of, rule_of, refusal_of, reading_of, unless, verdict_of}

-- ---- the records from i on, of n: record i and those from i + 1 on, or none
pub rest : (f : List ℕ) (i n : ℕ) → i < n → entries_from f i (n - i) ≡ entry_at f i ∷ entries_from f (i + 1) (n - (i + 1))
unfolding entries_from
rest f i n h = rw (add-one i, step) refl
  where
    step : n - i ≡ suc (n - suc i)
    step = omega arith

pub ended : (f : List ℕ) (i n : ℕ) → n ≤ i → entries_from f i (n - i) ≡ []
unfolding entries_from
ended f i n h = rw (end) refl
  where
    end : n - i ≡ 0
    end = omega arith

-- ---- what a reading says of its record
unfoldable record_of : Result Record Rule → Entry
record_of (Ok (Record.Link a b c)) = link (record { a = a.0; b = b.0; capacity = nat_abs c.0 })
record_of (Ok (Record.Offer j t)) = offer (record { member = j.0; terms = terms_in t })
record_of (Ok (Record.Begins j)) = begins j.0
record_of (Err r) = fault (number_of r)

terms_is : (t : P.Terms) → terms_in (terms_of t) ≡ t
unfolding terms_in terms_of
terms_is (P.Terms.point x p) = refl
terms_is (P.Terms.span l u a b) = refl

record_is : (e : Entry) → ((k : ℕ) → e ≡ fault k → number_of (rule_of k) ≡ k) → e ≡ record_of (reading_of e)
unfolding record_of reading_of
record_is (link l) h = refl
record_is (offer o) h = ap (λ (t : P.Terms). offer (record { member = o.member; terms = t })) (sym (terms_is o.terms))
record_is (begins j) h = refl
record_is (fault k) h = ap fault (sym (h k refl))

-- a reading that is no refusal
read_is : (e : Entry) (x : Record) → reading_of e ≡ Ok x → e ≡ record_of (Ok x)
unfolding reading_of
read_is e x is = record_is e (λ k q. absurd (never (sym (ap reading_of q) ∙ is))) ∙ ap record_of is
  where
    never : {r : Rule} → Err r ≡ Ok x → ⊥
    never q = cc (q)

module _ (e : Entry) (a b : Member) (c : Units) (is : reading_of e ≡ Ok (Record.Link a b c)) where
  pub link_is : e ≡ link (record { a = a.0; b = b.0; capacity = nat_abs c.0 })
  unfolding record_of
  link_is = read_is e _ is

  pub link_units : c.0 ≡ pos (nat_abs c.0)
  unfolding reading_of
  link_units =
      let q : Ok (Record.Link a b c) ≡ reading_of (link (record { a = a.0; b = b.0; capacity = nat_abs c.0 })) = sym is ∙ ap reading_of link_is in
      let p : c ≡ record { 0 = pos (nat_abs c.0) } = cc (q) in
      ap (λ (u : Units). u.0) p

pub offer_is : (e : Entry) (j : Member) (t : Terms) → reading_of e ≡ Ok (Record.Offer j t) → e ≡ offer (record { member = j.0; terms = terms_in t })
unfolding record_of
offer_is e j t is = read_is e _ is

pub begins_is : (e : Entry) (j : Member) → reading_of e ≡ Ok (Record.Begins j) → e ≡ begins j.0
unfolding record_of
begins_is e j is = read_is e _ is

-- a reading that is another case is that of another record
module _ (r : Result Record Rule) (e : Entry) (is : r ≡ reading_of e) where
  pub not_link : ((a b : Member) (c : Units) → r ≡ Ok (Record.Link a b c) → ⊥) → (l : Link) → e ≡ link l → ⊥
  unfolding reading_of
  not_link d l h = d _ _ _ (is ∙ ap reading_of h)

  pub not_offer : ((j : Member) (t : Terms) → r ≡ Ok (Record.Offer j t) → ⊥) → (o : Offer) → e ≡ offer o → ⊥
  unfolding reading_of
  not_offer d o h = d _ _ (is ∙ ap reading_of h)

  pub not_fault : ((k : Rule) → r ≡ Err k → ⊥) → (k : ℕ) → e ≡ fault k → ⊥
  unfolding reading_of
  not_fault d k h = d _ (is ∙ ap reading_of h)

-- a record of kind 6 is no offer
begin_other : (f : List ℕ) (i : ℕ) (o : Offer) → begin_at f i ≡ offer o → ⊥
unfolding begin_at
begin_other f i o = go (fields_fit f i) (unfinished f i)
  where
    go : (a b : Bool) → cond a (cond b (fault 13) (begins (byte f i 1))) (fault 4) ≡ offer o → ⊥
    go true true e = cc
    go true false e = cc
    go false b e = cc

pub kind_6 : (f : List ℕ) (i : ℕ) → byte f i 0 ≡ 6 → (o : Offer) → entry_at f i ≡ offer o → ⊥
unfolding entry_at
kind_6 f i e o h = begin_other f i o (sym is ∙ h)
  where
    is : entry_at f i ≡ begin_at f i
    is = rw e refl

-- ---- the numbers of a link and of an offer are in range, and a fault is one of four refusals
pub record LinkFits (l : Link) : Type 0 where
  pub low : 1 ≤ l.a
  pub below : l.a < l.b
  pub high : l.b ≤ 32
  pub small : l.capacity ≤ 40

abbrev pub MemberFits : ℕ → Type 0
MemberFits j = (1 ≤ j) × (j ≤ 32)

-- all that an offer is worth is in range
pub record OfferFits (o : Offer) : Type 0 where
  pub member : MemberFits o.member
  pub worths : (x : ℤ) → Limited 1000000 (worth o.terms x)

abbrev pub Fits : Entry → Type 0
Fits (link l) = LinkFits l
Fits (offer o) = OfferFits o
Fits (begins j) = MemberFits j
Fits (fault k) = (k ≡ 3) ⊎ (k ≡ 4) ⊎ (k ≡ 13) ⊎ (k ≡ 14)

-- k is the record's member, if the record is an offer
abbrev pub MemberIs : ℕ → Entry → Type 0
MemberIs k (link l) = Unit {0}
MemberIs k (offer o) = o.member ≡ k
MemberIs k (begins j) = Unit {0}
MemberIs k (fault n) = Unit {0}

-- what is known of a record whose byte 1 is k
pub record Known (k : ℕ) (e : Entry) : Type 0 where
  pub fits : Fits e
  pub member_is : MemberIs k e

known_fault : (k n : ℕ) → Fits (fault n) → Known k (fault n)
known_fault k n h = record { fits = h; member_is = tt }

link_fits : (a b z c y x : ℕ) → leb 1 a && ltb a b && leb b 32 && eqb z 0 && leb c 40 && eqb y 0 && eqb x 0 ≡ true → LinkFits (record { a = a; b = b; capacity = c })
link_fits a b z c y x e = record { low = grind (arith, nat_tests); below = grind (arith, nat_tests); high = grind (arith, nat_tests); small = grind (arith, nat_tests) }

link_known : (a b z c y x : ℕ) → Known a (link_of a b z c y x)
unfolding link_of
link_known a b z c y x =
    cond_both _ _ _ (Known a)
    (λ e. record { fits = link_fits a b z c y x e; member_is = tt })
    (λ e. known_fault a 4 (inr (inl refl)))

is_member_lem : (j : ℕ) → is_member j ≡ true → MemberFits j
is_member_lem j e = (grind (arith, nat_tests), grind (arith, nat_tests))

is_price_lem : (p : ℤ) → is_price p ≡ true → Limited 1000000 (some p)
is_price_lem p e = within_true (neg_ℤ (pos 1000000)) (pos 1000000) p e

point_known : (j : ℕ) (x p : ℤ) → Known j (point_of j x p)
unfolding point_of
point_known j x p =
    cond_both _ _ _ (Known j)
    (λ e.
    let e2 = and_parts (is_member j && is_units x) (is_price p) e in
    let e1 = and_parts (is_member j) (is_units x) e2.0 in
    record { fits = record { member = is_member_lem j e1.0; worths = point_limited 1000000 x p (is_price_lem p e2.1) }; member_is = refl })
    (λ e. known_fault j 4 (inr (inl refl)))

-- a span that is not refused
sound_span : (l u a b : ℤ) → bad_span l u a b ≡ false → (is_price ((a *ℤ l) +ℤ b) ≡ true) × (is_price ((a *ℤ u) +ℤ b) ≡ true)
unfolding bad_span
sound_span l u a b e = (grind (arith, nat_tests), grind (arith, nat_tests))

span_known : (j : ℕ) (l u a b : ℤ) → MemberFits j → Known j (span_of j l u a b)
unfolding span_of
span_known j l u a b m =
    cond_both _ _ _ (Known j) (λ e. known_fault j 14 (inr (inr (inr refl))))
    (λ e.
    let p = sound_span l u a b e in
    record { fits = record { member = m; worths = span_limited 1000000 l u a b (is_price_lem _ p.0) (is_price_lem _ p.1) }; member_is = refl })

module _ (f : List ℕ) (i : ℕ) where
  begin_known : Known (byte f i 1) (begin_at f i)
  unfolding begin_at
  begin_known =
      cond_both _ _ _ (Known (byte f i 1))
      (λ e.
      cond_both (unfinished f i) _ (begins (byte f i 1)) (Known (byte f i 1)) (λ d. known_fault (byte f i 1) 13 (inr (inr (inl refl))))
      (λ d. record { fits = is_member_lem (byte f i 1) (and_parts (is_member (byte f i 1)) (is_units (units_at f i)) e).0; member_is = tt }))
      (λ e. known_fault (byte f i 1) 4 (inr (inl refl)))

  span_at_known : Known (byte f i 1) (span_at f i)
  unfolding span_at
  span_at_known =
      cond_both _ _ _ (Known (byte f i 1))
      (λ e.
      cond_both (unbegun f i) _ _ (Known (byte f i 1)) (λ d. known_fault (byte f i 1) 13 (inr (inr (inl refl))))
      (λ d. span_known (byte f i 1) _ _ _ _ (is_member_lem (byte f i 1) (and_parts (is_member (byte f i 1)) (is_units (units_at f i)) e).0)))
      (λ e. known_fault (byte f i 1) 4 (inr (inl refl)))

  pub entry_known : Known (byte f i 1) (entry_at f i)
  unfolding entry_at link_at point_at
  entry_known =
      cond_both (eqb (byte f i 0) 1) _ _ (Known (byte f i 1)) (λ e. link_known (byte f i 1) (byte f i 2) (byte f i 3) (two f i 4) (byte f i 6) (byte f i 7))
      (λ e.
      cond_both (eqb (byte f i 0) 2) _ _ (Known (byte f i 1)) (λ d. point_known (byte f i 1) (units_at f i) (number_at f i))
      (λ d.
      cond_both (eqb (byte f i 0) 6) _ _ (Known (byte f i 1)) (λ c. begin_known)
      (λ c. cond_both (eqb (byte f i 0) 7) _ _ (Known (byte f i 1)) (λ b. span_at_known) (λ b. known_fault (byte f i 1) 3 (inl refl)))))

pub entry_fits : (f : List ℕ) (i : ℕ) → Fits (entry_at f i)
entry_fits f i = (entry_known f i).fits

-- ---- a law of any file's records, by one record before others
module _ (P : List Entry → Type 0) (none_yet : P []) (one_more : (e : Entry) (es : List Entry) → Fits e → P es → P (e ∷ es)) where
  from : (f : List ℕ) (i n : ℕ) → P (entries_from f i n)
  unfolding entries_from
  from f i zero = none_yet
  from f i (suc n) = one_more (entry_at f i) (entries_from f (suc i) n) (entry_fits f i) (from f (suc i) n)

  pub by_record : (f : List ℕ) → P (entries f)
  unfolding entries
  by_record f = from f 0 (length f / 8)

-- ---- the first faulty record
faulty_on : (i : ℕ) (e : Entry) (es : List Entry) → ((k : ℕ) → e ≡ fault k → ⊥) → faulty i (e ∷ es) ≡ faulty (i + 1) es
unfolding faulty
faulty_on i (link l) es h = rw (add-one i)
faulty_on i (offer o) es h = rw (add-one i)
faulty_on i (begins j) es h = rw (add-one i)
faulty_on i (fault k) es h = absurd (h k refl)

-- a record that is read as a refusal
pub fault_is : (e : Entry) → Fits e → (r : Rule) → reading_of e ≡ Err r → e ≡ fault (number_of r)
unfolding record_of rule_of number_of
fault_is e h r is = record_is e (λ k q. given k (subst Fits q h)) ∙ ap record_of is
  where
    given : (k : ℕ) → Fits (fault k) → number_of (rule_of k) ≡ k
    given k h = number_of_rule k (grind arith) (grind arith) (λ q. grind arith)

-- the pass at record i, of n; r is its reading
module _ (f : List ℕ) (i n : ℕ) where
  pub none_left : n ≤ i → faulty i (entries_from f i (n - i)) ≡ none
  unfolding faulty
  none_left h = rw (ended f i n h)

  module _ (r : Result Record Rule) (h : i < n) (is : r ≡ reading_of (entry_at f i)) where
    pub fault_here : (k : Rule) → r ≡ Err k → faulty i (entries_from f i (n - i)) ≡ some (record { number = number_of k; place = i })
    unfolding faulty
    fault_here k e = rw (rest f i n h, fault_is (entry_at f i) (entry_fits f i) k (sym is ∙ e))

    pub refused_here : (k : Rule) → r ≡ Err k → verdict_of (faulty i (entries_from f i (n - i))) ≡ Err (record { rule = k; place = i })
    unfolding unless refusal_of
    refused_here k e = rw (fault_here k e, rule_of_number k) refl

    pub no_fault_here : ((k : Rule) → r ≡ Err k → ⊥) → faulty i (entries_from f i (n - i)) ≡ faulty (i + 1) (entries_from f (i + 1) (n - (i + 1)))
    no_fault_here d = rw (rest f i n h) (faulty_on i (entry_at f i) _ (not_fault r (entry_at f i) is d))

-- ---- a sound file is short

-- where neither of two is given
pub both_none : (g h : Option Refusal) → g otherwise h ≡ none → (g ≡ none) × (h ≡ none)
unfolding ◌otherwise◌
both_none none h e = (refl, e)
both_none (some x) h e = cc (e)

test_fails : (k : ℕ) (t : Bool) (p : ℕ) → refusal k (place_if t p) ≡ none → t ≡ false
unfolding refusal place_if
test_fails k true p e = cc (e)
test_fails k false p e = refl

pub short_file : (f : List ℕ) → refusal 1 (too_long f) ≡ none → length f ≤ file_limit
unfolding too_long
short_file f e = ltb-false file_limit (length f) (test_fails 1 (ltb file_limit (length f)) 0 e)

pub sound_short : (f : List ℕ) → unsound f ≡ none → length f ≤ file_limit
unfolding unsound
sound_short f e = short_file f (both_none (refusal 1 (too_long f)) _ e).0
