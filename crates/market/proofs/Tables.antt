-- The tally of a file's members and offers, record by record, and the lowest member whose count is outside. Assumes nothing.
use Rattle.std.proofs.lemmas.Bool.Decides.{nat_tests}
use Rattle.std.proofs.lemmas.Grind.{common_steps}
use mathlib.Core.Path.{◌≡◌, refl, sym, ap, ◌∙◌, subst}
use mathlib.Core.Bool.{Bool, true, false, cond}
use mathlib.Core.List.{List, [], ◌∷◌}
use Prim.Native.Nat.{ℕ, zero, suc, ◌+◌, ◌-◌, ◌/◌, ◌≤◌, ◌<◌, max}
use native.Mathlib.Nat.{sub-zero}
use native.Mathlib.Omega.{arith}
use native.Mathlib.Nat.{not-suc-le-zero}
use native.Mathlib.Numerals.{add-one}
use lib.Dec.{eqb, ltb}
use lib.ListN.{length, get_or, set, take, replicate, get_or-replicate}
use Rattle.std.specs.Prelude.{not, Ok, Err, Some, None, MatchOption, position}
use Rattle.std.specs.List.{position_or_len}
use Rattle.std.proofs.lemmas.List.{length-take-le}
use Rattle.std.proofs.Math.Option.{none, some}
use Rattle.std.proofs.Math.Option as Math
use Rattle.numbers.specs.declared.Member.{Member}
use Rattle.numbers.specs.declared.Units.{Units}
use Rattle.numbers.specs.inner.Held.{member}
use Rattle.records.specs.Records.{Entry, entry_at, entries_from, entries}
use Rattle.records.specs.Records.Entry.{link, offer, begins, fault}
use Rattle.records.specs.Market.{members_of, offers_of, market_of}
use Rattle.problem.specs.Problem.{lowest}
use Rattle.records.specs.declared.Terms.{Terms}
use Rattle.records.specs.declared.Record.{Record}
use Rattle.records.specs.declared.Rule.{Rule}
use Rattle.records.specs.inner.Cases.{reading_of}
use Rattle.records.specs.Refusals.{place_if}
use Rattle.records.proofs.Entries.{rest, ended, link_is, offer_is, begins_is, MemberFits, Fits, entry_fits}
use Rattle.market.specs.Refusals.{lowest_member, offers_by, without, too_many}
use Rattle.market.specs.declared.offers.Tally.{Tally}
use Rattle.market.specs.inner.Tallies.{Offered, Counts, outside}
use Rattle.market.proofs.Top.{members_few, members_apart}

-- one more for member m
pub added : (by : List ℕ) (m i j : ℕ) → 1 ≤ m → m ≤ length by → i ≡ m - 1 → get_or (set by i (get_or by i 0 + 1)) j 0 ≡ get_or by j 0 + cond (eqb (suc j) m) 1 0
added by m i j low high is = grind (arith, nat_tests, common_steps)

-- ---- one record more

-- an offer's member, as it is read
pub offer_member : (f : List ℕ) (i : ℕ) (m : Member) (t : Terms) → reading_of (entry_at f i) ≡ Ok (Record.Offer m t) → MemberFits m.0
offer_member f i m t is = (subst Fits (offer_is (entry_at f i) m t is) (entry_fits f i)).member

-- r is t with a record that names member m and offers nothing
abbrev Named : ℕ → Tally → Tally → Type 0
Named m t r = (r.members.0 ≡ max t.members.0 m) × (r.offers ≡ t.offers) × (r.by ≡ t.by)

-- a record that is read as a refusal, whatever its number
pub fault_counts : (e : Entry) (t : Tally) (k : Rule) → reading_of e ≡ Err k → Counts e t t
unfolding reading_of members_of offers_of offers_by
fault_counts (link l) t k is = cc (is)
fault_counts (offer o) t k is = cc (is)
fault_counts (begins j) t k is = cc (is)
fault_counts (fault n) t k is = record { members = omega arith; offers = omega arith; by = λ j l. omega arith; wide = refl }

module _ (e : Entry) (t : Tally) where
  pub counts_link : (x r : Tally) (a b : Member) (c : Units) → reading_of e ≡ Ok (Record.Link a b c) → Named a.0 t x → Named b.0 x r → Counts e t r
  unfolding members_of offers_of offers_by
  counts_link x r a b c is g h =
      subst (λ (k : Entry). Counts k t r) (sym (link_is e a b c is))
      (record { members = omega arith; offers = omega arith; by = λ j l. ap (λ (k : List ℕ). get_or k j 0) (h.2 ∙ g.2) ∙ omega arith; wide = ap length (h.2 ∙ g.2) })

  pub counts_offer : (r : Tally) (m : Member) (u : Terms) → reading_of e ≡ Ok (Record.Offer m u) → Offered m.0 t r → Counts e t r
  unfolding members_of offers_of offers_by
  counts_offer r m u is h =
      subst (λ (k : Entry). Counts k t r) (sym (offer_is e m u is))
      (record { members = omega (arith, h.members); offers = omega (arith, h.offers); by = λ j l. omega (arith, h.by j l); wide = h.wide })

  pub counts_begins : (r : Tally) (m : Member) → reading_of e ≡ Ok (Record.Begins m) → Named m.0 t r → Counts e t r
  unfolding members_of offers_of offers_by
  counts_begins r m is h =
      subst (λ (k : Entry). Counts k t r) (sym (begins_is e m is))
      (record { members = omega arith; offers = omega arith; by = λ j l. ap (λ (k : List ℕ). get_or k j 0) h.2 ∙ omega arith; wide = ap length h.2 })

  pub counts_fault : Fits e → (k : Rule) → reading_of e ≡ Err k → Counts e t t
  counts_fault fits k is = fault_counts e t k is

-- a record's offers, at most one, and those of the records after it
offers_apart : (e : Entry) (es : List Entry) → (length (offers_of (e ∷ es)) ≡ length (offers_of (e ∷ [])) + length (offers_of es)) × (length (offers_of (e ∷ [])) ≤ 1)
unfolding offers_of
offers_apart (link l) es = (omega arith, omega arith)
offers_apart (offer o) es = (omega arith, omega arith)
offers_apart (begins j) es = (omega arith, omega arith)
offers_apart (fault k) es = (omega arith, omega arith)

at_most_one : (b : Bool) → cond b 1 0 ≤ 1
at_most_one true = omega arith
at_most_one false = omega arith

by_apart : (j : ℕ) (e : Entry) (es : List Entry) → (offers_by j (offers_of (e ∷ es)) ≡ offers_by j (offers_of (e ∷ [])) + offers_by j (offers_of es)) × (offers_by j (offers_of (e ∷ [])) ≤ 1)
unfolding offers_of offers_by
by_apart j (link l) es = (omega arith, omega arith)
by_apart j (offer o) es = (omega arith, omega (arith, at_most_one (eqb j o.member)))
by_apart j (begins m) es = (omega arith, omega arith)
by_apart j (fault k) es = (omega arith, omega arith)

-- t is of the records es
pub record Tallied (es : List Entry) (t : Tally) : Type 0 where
  pub members : t.members.0 ≡ members_of es
  pub offers : t.offers ≡ length (offers_of es)
  pub by : (j : ℕ) → j < 32 → get_or t.by j 0 ≡ offers_by (suc j) (offers_of es)
  pub few : (j : ℕ) → j < 32 → get_or t.by j 0 ≤ 65535
  pub high : t.members.0 ≤ 32
  pub wide : length t.by ≡ 32

-- the tally t of the records before record i, of n, and what is left
pub record Tallying (f : List ℕ) (n i : ℕ) (t : Tally) : Type 0 where
  pub members : members_of (entries f) ≡ max t.members.0 (members_of (entries_from f i (n - i)))
  pub offers : length (offers_of (entries f)) ≡ t.offers + length (offers_of (entries_from f i (n - i)))
  pub by : (j : ℕ) → j < 32 → offers_by (suc j) (offers_of (entries f)) ≡ get_or t.by j 0 + offers_by (suc j) (offers_of (entries_from f i (n - i)))
  pub few : t.offers ≤ i
  pub each : (j : ℕ) → j < 32 → get_or t.by j 0 ≤ i
  pub high : t.members.0 ≤ 32
  pub wide : length t.by ≡ 32

pub tallying_none : (f : List ℕ) → Tallying f (length f / 8) 0 (record { members = member 0; offers = 0; by = replicate 32 0 })
unfolding entries
tallying_none f = record {
  members = rw (sub-zero (length f / 8)) (omega arith);
  offers = rw (sub-zero (length f / 8)) (omega arith);
  by = λ j h. rw (sub-zero (length f / 8), get_or-replicate {A = ℕ} 32 j 0 0 h) (omega arith);
  few = omega arith;
  each = λ j h. rw (get_or-replicate {A = ℕ} 32 j 0 0 h) (omega arith);
  high = omega arith;
  wide = refl;
}

module _ (f : List ℕ) (n i : ℕ) (t : Tally) (T : Tallying f n i t) where
  pub tallying_more : (r : Tally) → i < n → Counts (entry_at f i) t r → Tallying f n (i + 1) r
  tallying_more r h c =
      let e = entry_at f i in
      let es = entries_from f (i + 1) (n - (i + 1)) in
      let all : entries_from f i (n - i) ≡ e ∷ es = rest f i n h in
      record {
        members = T.members ∙ ap (λ (x : List Entry). max t.members.0 (members_of x)) all ∙ omega (arith, members_apart e es, c.members);
        offers = T.offers ∙ ap (λ (x : List Entry). t.offers + length (offers_of x)) all ∙ omega (arith, (offers_apart e es).0, c.offers);
        by = λ j l. T.by j l ∙ ap (λ (x : List Entry). get_or t.by j 0 + offers_by (suc j) (offers_of x)) all ∙ omega (arith, (by_apart (suc j) e es).0, c.by j l);
        few = omega (arith, T.few, c.offers, (offers_apart e es).1);
        each = λ j l. omega (arith, T.each j l, c.by j l, (by_apart (suc j) e es).1);
        high = omega (arith, T.members, ap (λ (x : List Entry). max t.members.0 (members_of x)) all, members_apart e es, c.members, members_few f);
        wide = c.wide ∙ T.wide;
      }

  pub tallying_done : n ≤ i → i ≤ 65535 → Tallied (entries f) t
  unfolding members_of offers_of offers_by
  tallying_done h b =
      let all : entries_from f i (n - i) ≡ [] = ended f i n h in
      record {
        members = sym (T.members ∙ ap (λ (x : List Entry). max t.members.0 (members_of x)) all ∙ omega arith);
        offers = sym (T.offers ∙ ap (λ (x : List Entry). t.offers + length (offers_of x)) all ∙ omega arith);
        by = λ j l. sym (T.by j l ∙ ap (λ (x : List Entry). get_or t.by j 0 + offers_by (suc j) (offers_of x)) all ∙ omega arith);
        few = λ j l. omega (arith, T.each j l);
        high = T.high;
        wide = T.wide;
      }

-- ---- the lowest member whose count is outside

-- the first of n places that passes
first_is : (p q : ℕ → Bool) (n : ℕ) (xs : List ℕ) → n ≤ length xs → ((k : ℕ) → k < n → p (get_or xs k 0) ≡ q k) → position_or_len p (take n xs) ≡ lowest q n
unfolding lowest
first_is p q zero xs h e = refl
first_is p q (suc n) [] h e = absurd (not-suc-le-zero h)
first_is p q (suc n) (x ∷ xs) h e = rw (e 0 (omega arith)) (go (q 0) (first_is p (λ k. q (suc k)) n xs (omega arith) (λ k l. e (suc k) (omega arith))))
  where
    go : (b : Bool) → position_or_len p (take n xs) ≡ lowest (λ k. q (suc k)) n → cond (not b) (1 + position_or_len p (take n xs)) 0 ≡ cond b 0 (suc (lowest (λ k. q (suc k)) n))
    go true ih = refl
    go false ih = omega (arith, ih)

module _ (least most x : ℕ) where
  pub too_few : x < least → outside least most x ≡ true
  too_few h = grind (arith, nat_tests)

  pub too_high : most < x → outside least most x ≡ true
  too_high h = grind (arith, nat_tests)

  pub inside : least ≤ x → x ≤ most → outside least most x ≡ false
  inside h k = grind (arith, nat_tests)

no_count : (x : ℕ) → x ≤ 65535 → outside 1 65535 x ≡ eqb x 0
no_count x h = grind (arith, nat_tests)

module _ (f : List ℕ) (t : Tally) (T : Tallied (entries f) t) where
  -- p is the test that a count is outside
  module _ (p : ℕ → Bool) (least most : ℕ) (same : (x : ℕ) → x ≤ 65535 → outside least most x ≡ p x) where
    -- the lowest of the file's members whose count passes
    abbrev pub lowest_of : Math.Option ℕ
    lowest_of = lowest_member (λ j. p (offers_by j (offers_of (entries f)))) (members_of (entries f))

    pub count_is : MatchOption (position (outside least most) (take t.members.0 t.by)) (lowest_of ≡ none) (λ i. lowest_of ≡ some (i + 1))
    unfolding lowest_member place_if
    count_is =
        let n = t.members.0 in
        let q = λ (i : ℕ). p (offers_by (suc i) (offers_of (entries f))) in
        let few : n ≤ 32 = T.high in
        let first : position_or_len (outside least most) (take n t.by) ≡ lowest q n =
        first_is (outside least most) q n t.by (omega (arith, T.wide)) (λ k l. same _ (T.few k (omega arith)) ∙ ap p (T.by k (omega arith))) in
        let long : n ≤ length t.by = omega (arith, T.wide) in
        rw (← T.members, first, length-take-le) (go (lowest q n) (ltb (lowest q n) n))
      where
        go : (k : ℕ) (b : Bool) → MatchOption (cond b (Some k) None) (place_if b (suc k) ≡ none) (λ i. place_if b (suc k) ≡ some (i + 1))
        go k true = ap some (sym (add-one k))
        go k false = refl

  pub without_is : MatchOption (position (outside 1 65535) (take t.members.0 t.by)) (without (market_of f) ≡ none) (λ i. without (market_of f) ≡ some (i + 1))
  unfolding without market_of
  without_is = count_is (λ k. eqb k 0) 1 65535 no_count

  pub too_many_is : MatchOption (position (outside 0 64) (take t.members.0 t.by)) (too_many (market_of f) ≡ none) (λ i. too_many (market_of f) ≡ some (i + 1))
  unfolding too_many market_of
  too_many_is = count_is (λ k. ltb 64 k) 0 64 (λ x h. grind (arith, nat_tests))
