-- The order of checking: what each check's answer makes of the file's refusal. Assumes nothing.
use Rattle.std.specs.Prelude.{Result, Ok, Err, ⊤}
use mathlib.Core.Path.{◌≡◌, refl, sym, ap, ◌∙◌}
use mathlib.Core.Bool.{Bool, true, false}
use mathlib.Core.List.{List, ◌∷◌}
use mathlib.Core.Option.{Option, none, some}
use Prim.Native.Nat.{ℕ, ◌≤◌}
use native.Mathlib.Omega.{arith}
use lib.Dec.{eqb}
use lib.ListN.{length}
use borrow.Author.Tests.{eq-eqb, ne_eqb}
use Rattle.problem.specs.Problem.{Link, walk}
use Rattle.records.specs.Records.{Entry, entries}
use Rattle.records.specs.Records.Entry.{link, offer, begins, fault}
use Rattle.records.specs.Refusals.{Refusal, refusal, ◌otherwise◌, place_if, unsound}
use Rattle.records.specs.Market.{members_of, links_of, offers_of, market_of}
use Rattle.records.specs.inner.Cases.{rule_of, refusal_of, unless, verdict_of}
use Rattle.records.specs.declared.Refusal as Code
use Rattle.network.specs.declared.Feeder.{Feeder}
use Rattle.records.proofs.Entries.{Fits, by_record}
use Rattle.market.specs.Refusals.{no_offer, apart, from10, from5, file_refusal}
use Rattle.market.specs.inner.Feeders.{laid_at, FeederOf, Finds}
use Rattle.market.specs.inner.Lines.{market_on}

-- ---- the first that applies: a check decides, or leaves it to the rest

pub decided : (k : ℕ) (o : Option ℕ) (later : Option Refusal) (p : ℕ) → o ≡ some p → verdict_of (refusal k o otherwise later) ≡ Err (record { rule = rule_of k; place = p })
unfolding ◌otherwise◌ refusal unless refusal_of
decided k o later p e = rw e refl

-- the refusal itself, whatever its number
pub decided_as : (k : ℕ) (o : Option ℕ) (later : Option Refusal) (p : ℕ) → o ≡ some p → refusal k o otherwise later ≡ some (record { number = k; place = p })
unfolding ◌otherwise◌ refusal
decided_as k o later p e = rw e refl

pub left_over : (k : ℕ) (o : Option ℕ) (later : Option Refusal) → o ≡ none → refusal k o otherwise later ≡ later
unfolding ◌otherwise◌ refusal
left_over k o later e = rw e refl

pub last_decided : (k : ℕ) (o : Option ℕ) (p : ℕ) → o ≡ some p → verdict_of (refusal k o) ≡ Err (record { rule = rule_of k; place = p })
unfolding refusal unless refusal_of
last_decided k o p e = rw e refl

pub refused_is : (k : ℕ) (o : Option ℕ) (p q : ℕ) → p ≡ q → o ≡ some q → some (record { number = k; place = p }) ≡ refusal k o
unfolding refusal
refused_is k o p q e is = rw (e, is) refl

pub last_left : (k : ℕ) (o : Option ℕ) → o ≡ none → refusal k o ≡ none
unfolding refusal
last_left k o e = rw e refl

-- refusals 1 to 4, 13 and 14, by the verdict on the records
pub records_sound : (o : Option Refusal) → Ok tt ≡ verdict_of o → o ≡ none
unfolding unless
records_sound none e = refl
records_sound (some f) e = cc (e)

pub verdict_none : (o : Option Refusal) (v : Result ⊤ Code.Refusal) → v ≡ verdict_of o → ((r : Code.Refusal) → v ≡ Err r → ⊥) → o ≡ none
unfolding unless
verdict_none none v is d = refl
verdict_none (some f) v is d = absurd (d _ is)

pub records_refused : (o later : Option Refusal) (r : Code.Refusal) → Err r ≡ verdict_of o → verdict_of (o otherwise later) ≡ Err r
unfolding ◌otherwise◌ unless
records_refused none later r e = cc (e)
records_refused (some f) later r e = sym e

pub records_left : (f : List ℕ) → unsound f ≡ none → file_refusal f ≡ from5 f
unfolding file_refusal ◌otherwise◌
records_left f e = rw e refl

-- what the last check finds
pub finds_last : {A : Type 0} {P Q : A → Type 0} (r : Result A Code.Refusal) (first last later : Option Refusal) → first ≡ last → ((x : A) → P x → Q x) → Finds P last later r → Finds Q first later r
finds_last (Ok x) first last later e g h = (e ∙ h.0, g x h.1)
finds_last (Err r) first last later e g h = ap verdict_of e ∙ h

-- refusal 5, by the number of offers
module _ (f : List ℕ) (k : ℕ) (is : k ≡ length (offers_of (entries f))) where
  pub no_offers : k ≡ 0 → no_offer (market_of f) ≡ some 0
  unfolding no_offer market_of place_if
  no_offers e = ap (λ (b : Bool). place_if b 0) (eq-eqb (length (offers_of (entries f))) 0 (sym is ∙ e))

  pub some_offers : (k ≡ 0 → ⊥) → no_offer (market_of f) ≡ none
  unfolding no_offer market_of place_if
  some_offers d = ap (λ (b : Bool). place_if b 0) (ne_eqb (length (offers_of (entries f))) 0 (λ e. d (is ∙ e)))

-- refusal 10 does not look at the offers, nor does the feeder
pub only_10 : (f : List ℕ) (n : ℕ) (ls : List Link) → n ≡ members_of (entries f) → ls ≡ links_of (entries f) → refusal 10 (apart (market_on n ls)) ≡ from10 f
unfolding apart market_of
only_10 f n ls p q = rw (p, q) refl

pub same_feeder : (f : List ℕ) (n : ℕ) (ls : List Link) → n ≡ members_of (entries f) → ls ≡ links_of (entries f) → (x : Feeder) → FeederOf (market_on n ls) x → FeederOf (market_of f) x
unfolding laid_at walk market_of
same_feeder f n ls p q x F = record {
  members = F.members ∙ p;
  positions = record { at = λ i l. F.positions.at i (omega arith) ∙ rw (p, q) refl; past = λ i l. F.positions.past i (omega arith) };
}

-- ---- a file with an offer has a member

member_more : (e : Entry) (es : List Entry) → Fits e → ((length (offers_of es) ≡ 0 → ⊥) → 1 ≤ members_of es) → (length (offers_of (e ∷ es)) ≡ 0 → ⊥) → 1 ≤ members_of (e ∷ es)
unfolding offers_of members_of
member_more (link l) es h ih n = omega (arith, ih n)
member_more (offer o) es h ih n = omega (arith, h.member.0)
member_more (begins j) es h ih n = omega (arith, ih n)
member_more (fault k) es h ih n = ih n

pub member_of_offer : (f : List ℕ) → (length (offers_of (entries f)) ≡ 0 → ⊥) → 1 ≤ members_of (entries f)
unfolding offers_of members_of
member_of_offer f = by_record (λ es. (length (offers_of es) ≡ 0 → ⊥) → 1 ≤ members_of es) (λ d. absurd (d refl)) member_more f

pub some_member : (f : List ℕ) → no_offer (market_of f) ≡ none → 1 ≤ members_of (entries f)
unfolding no_offer place_if market_of
some_member f e = member_of_offer f (λ z. none_left (eqb (length (offers_of (entries f))) 0) (eq-eqb _ 0 z) e)
  where
    none_left : (b : Bool) → b ≡ true → place_if b 0 ≡ none → ⊥
    none_left true t q = cc (q)
    none_left false t q = cc
