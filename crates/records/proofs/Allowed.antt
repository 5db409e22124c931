-- A refusal of a file or an area is one that the table allows: its number is one of theirs, and its place has 16 bits, so that the
-- number returned tells both, and the error that stands for it does. Here of refusals 1 to 4, 13 and 14, and of any that are tried
-- one after the other. Assumes nothing.
use mathlib.Core.Path.{◌≡◌, refl, sym, ap, ap₂, ◌∙◌, subst}
use mathlib.Core.Bool.{Bool, true, false, ◌&&◌, ◌||◌}
use mathlib.Core.List.{List, ◌∷◌}
use mathlib.Core.Option.{Option, none, some, none-ne-some, some-injective}
use Prim.Native.Nat.{ℕ, zero, suc, ◌+◌, ◌/◌, ◌≤◌, ◌<◌}
use native.Mathlib.Omega.{arith}
use lib.Dec.{eqb, ltb}
use lib.ListN.{length}
use Rattle.std.proofs.lemmas.Bool.Decides.{nat_tests}
use Rattle.std.specs.Prelude.{Err}
use Rattle.std.proofs.lemmas.Bool.{true≢false}
use Rattle.records.specs.declared.Refusal as D
use Rattle.records.specs.inner.Cases.{number_of, rule_of, refusal_of, refusal_in, unless}
use Rattle.records.proofs.Rules.{number_of_rule}
use Rattle.records.specs.Records.{Entry, entry_at, entries_from, entries}
use Rattle.records.specs.Records.Entry.{link, offer, begins, fault}
use Rattle.records.specs.Refusals.{Refusal, refusal, ◌otherwise◌, place_if, too_long, not_whole, faulty, unsound}
use Rattle.records.proofs.Entries.{Fits, entry_fits, short_file}

-- 1 to 7, 9 to 11, 13 and 14: 8 is never given, and 12 is a market's
abbrev pub listed : ℕ → Bool
listed k = (ltb 0 k && ltb k 8) || (ltb 8 k && ltb k 12) || eqb k 13 || eqb k 14

pub record Allowed (r : Refusal) : Type 0 where
  pub number : listed r.number ≡ true
  pub place : r.place < 65536

pub unlisted : (k : ℕ) → listed k ≡ false → {r : Refusal} → Allowed r → r.number ≡ k → ⊥
unlisted k n a e = true≢false (sym a.number ∙ ap listed e ∙ n)

-- the refusal, if there is one, is allowed
abbrev pub IfAllowed : Option Refusal → Type 0
IfAllowed o = (r : Refusal) → o ≡ some r → Allowed r

-- the place, if there is one, has 16 bits
abbrev pub IfPlaced : Option ℕ → Type 0
IfPlaced o = (p : ℕ) → o ≡ some p → p < 65536

pub here : {i : ℕ} → i < 65536 → IfPlaced (some i)
here {i} l p e = omega (arith, l, some-injective i p e)

pub placed_if : (t : Bool) (i : ℕ) → (t ≡ true → i < 65536) → IfPlaced (place_if t i)
unfolding place_if
placed_if true i h p e = here (h refl) p e
placed_if false i h p e = absurd (none-ne-some p e)

this_allowed : {k i : ℕ} → listed k ≡ true → i < 65536 → IfAllowed (some (record { number = k; place = i }))
this_allowed {k} {i} h l r e = subst Allowed (some-injective (record { number = k; place = i }) r e) (record { number = h; place = l })

pub refusal_allowed : (k : ℕ) (o : Option ℕ) → listed k ≡ true → IfPlaced o → IfAllowed (refusal k o)
unfolding refusal
refusal_allowed k none h l r e = absurd (none-ne-some r e)
refusal_allowed k (some p) h l r e = this_allowed h (l p refl) r e

pub first_allowed : (g h : Option Refusal) → IfAllowed g → (g ≡ none → IfAllowed h) → IfAllowed (g otherwise h)
unfolding ◌otherwise◌
first_allowed none h a b r e = b refl r e
first_allowed (some x) h a b r e = a r e

-- ---- refusals 1 to 4, 13 and 14

faulty_one : (i : ℕ) (e : Entry) (es : List Entry) → Fits e → i < 65536 → IfAllowed (faulty (suc i) es) → IfAllowed (faulty i (e ∷ es))
unfolding faulty
faulty_one i (link l) es h b t = t
faulty_one i (offer o) es h b t = t
faulty_one i (begins j) es h b t = t
faulty_one i (fault k) es h b t = this_allowed (given h) b
  where
    given : Fits (fault k) → listed k ≡ true
    given f = grind (arith, nat_tests)

faulty_allowed : (f : List ℕ) (i n : ℕ) → i + n ≤ 65536 → IfAllowed (faulty i (entries_from f i n))
unfolding entries_from faulty
faulty_allowed f i zero h = λ r e. absurd (none-ne-some r e)
faulty_allowed f i (suc n) h = faulty_one i (entry_at f i) (entries_from f (suc i) n) (entry_fits f i) (omega (arith, h)) (faulty_allowed f (suc i) n (omega (arith, h)))

pub unsound_allowed : (f : List ℕ) → IfAllowed (unsound f)
unfolding unsound too_long not_whole entries
unsound_allowed f =
    first_allowed _ _ (refusal_allowed _ _ refl (placed_if _ _ (λ t. omega arith)))
    (λ e.
    first_allowed _ _ (refusal_allowed _ _ refl (placed_if _ _ (λ t. omega arith)))
    (λ e2. faulty_allowed f 0 (length f / 8) (omega (arith, short_file f e))))

-- ---- the numbers that refusals have are numbers of rules
listed_number : (n : ℕ) → listed n ≡ true → number_of (rule_of n) ≡ n
listed_number n e = number_of_rule n (grind (arith, nat_tests)) (grind (arith, nat_tests)) (λ q. grind (arith, nat_tests))

-- ---- what an error says of the refusal that it stands for
pub error_is : {A : Type 0} (x : A) (o : Option Refusal) → IfAllowed o → (r : D.Refusal) → unless x o ≡ Err r → o ≡ some (refusal_in r)
unfolding unless refusal_in refusal_of
error_is x none h r e = cc (e)
error_is x (some f) h r e =
    let q : refusal_of f ≡ r = cc (e) in
    ap some (ap₂ {C = Refusal} (λ (k p : ℕ). record { number = k; place = p }) (sym (listed_number f.number (h f refl).number) ∙ ap (λ (s : D.Refusal). number_of s.rule) q) (ap (λ (s : D.Refusal). s.place) q))
