-- What a file's records give a member for some units, as cells: the highest of what each gives; and what one record offers, as
-- a span. Assumes nothing.
use mathlib.Core.Path.{◌≡◌, refl, sym, ap, subst, ◌∙◌}
use mathlib.Core.Bool.{cond}
use mathlib.Core.List.{List, [], ◌∷◌}
use mathlib.Core.Option.{Option, none, some}
use Prim.Native.Nat.{ℕ, ◌+◌, ◌-◌, ◌/◌, ◌<◌, ◌≤◌, max}
use native.Mathlib.Nat.{sub-zero}
use native.Mathlib.Omega.{arith}
use Rattle.std.proofs.lemmas.Int.{ints}
use lib.IntN.{ℤ, pos, ◌+ℤ◌, ◌*ℤ◌, zero-*ℤ}
use lib.ListN.{length}
use Rattle.std.specs.Prelude.{Result, Ok, Err, Some, None}
use Rattle.std.specs.Result.{result_ok}
use Rattle.numbers.specs.Whole.{eq_z, within}
use Rattle.numbers.specs.declared.Member.{Member}
use Rattle.numbers.specs.declared.Units.{Units}
use Rattle.numbers.specs.declared.Price.{Price}
use Rattle.numbers.specs.declared.Slope.{Slope}
use Rattle.numbers.proofs.Tests.{true_within}
use Rattle.problem.specs.Problem as P
use Rattle.problem.specs.Problem.{Offer, worth, offered, higher, value}
use Rattle.problem.proofs.Prices.{cell_of, Low, Limited, limited_low, Worths, Priced, worths_map, value_keeps}
use Rattle.problem.proofs.Values.{own_offered, other_offered, higher_none}
use Rattle.records.specs.declared.Terms.{Terms}
use Rattle.records.specs.declared.Record.{Record}
use Rattle.records.specs.declared.Rule.{Rule}
use Rattle.records.specs.Records.{Entry, byte, entry_at, entries_from, entries}
use Rattle.records.specs.Records.Entry.{link, offer, begins, fault}
use Rattle.records.specs.inner.Cases.{terms_in, reading_of}
use Rattle.records.specs.Market.{offers_of}
use Rattle.records.proofs.Entries.{rest, ended, offer_is, not_offer, kind_6, Fits, MemberIs, Known, entry_known, by_record}
use Rattle.rows.specs.declared.span.Span.{Span}
use Rattle.rows.specs.inner.Lines.{Ranged}
use Rattle.rows.specs.inner.Rows.{given, spanned, cell_in, Offers}
use Rattle.rows.proofs.Prices.{cell_higher, cell_top}

-- ---- the records es after the record e
module _ (B j : ℕ) (x : ℤ) where
  cell_cons : (e : Entry) (es : List Entry)
      → cell_of B (value (offers_of (e ∷ es)) j x) ≡ max (cell_of B (value (offers_of (e ∷ [])) j x)) (cell_of B (value (offers_of es) j x))
  unfolding cell_of value offers_of
  cell_cons (link l) es = omega arith
  cell_cons (begins k) es = omega arith
  cell_cons (fault k) es = omega arith
  cell_cons (offer o) es = omega (arith, cell_higher B (offered o j x) (value (offers_of es) j x), cell_higher B (offered o j x) none)

-- ---- the prices of a file's offers are in range
limited_cons : (e : Entry) (es : List Entry) → Fits e → Worths (Limited 1000000) (offers_of es) → Worths (Limited 1000000) (offers_of (e ∷ es))
unfolding offers_of
limited_cons (link l) es f h = h
limited_cons (offer o) es f h = (f.worths, h)
limited_cons (begins k) es f h = h
limited_cons (fault k) es f h = h

limited : (f : List ℕ) → Worths (Limited 1000000) (offers_of (entries f))
unfolding offers_of
limited f = by_record (λ es. Worths (Limited 1000000) (offers_of es)) tt limited_cons f

pub priced : (f : List ℕ) → Priced 1000000 (offers_of (entries f))
priced f = worths_map (Limited 1000000) (Low 1000000) (limited_low 1000000) (offers_of (entries f)) (limited f)

pub value_limited : (f : List ℕ) (j : ℕ) (x : ℤ) → Limited 1000000 (value (offers_of (entries f)) j x)
value_limited f = value_keeps (Limited 1000000) tt (offers_of (entries f)) (limited f)

pub cell_bound : (j : ℕ) (x : ℤ) (f : List ℕ) → cell_of 1000000 (value (offers_of (entries f)) j x) ≤ 2000001
cell_bound j x f = cell_top 1000000 _ (value_limited f j x)

-- ---- what the records from i on, of n, give
unfoldable pub left : List ℕ → ℕ → ℕ → ℤ → ℕ → ℕ
left f n j x i = cell_of 1000000 (value (offers_of (entries_from f i (n - i))) j x)

module _ (f : List ℕ) (n j : ℕ) (x : ℤ) where
  pub left_all : (c : ℕ) → c ≡ 0 → n ≡ length f / 8 → cell_of 1000000 (value (offers_of (entries f)) j x) ≡ max c (left f n j x 0)
  unfolding left entries
  left_all c z e = rw (sub-zero, e) (omega arith)

  pub left_none : (c i : ℕ) → n ≤ i → max c (left f n j x i) ≡ c
  unfolding left cell_of value offers_of
  left_none c i h = rw (ended f i n h) (omega arith)

  -- c before record i, d after it
  pub left_more : (c d i : ℕ) → i < n → d ≡ max c (given f i j x) → max c (left f n j x i) ≡ max d (left f n j x (i + 1))
  unfolding left given
  left_more c d i h e =
      omega (arith, ap (λ (es : List Entry). cell_of 1000000 (value (offers_of es) j x)) (rest f i n h) ∙ cell_cons 1000000 j x (entry_at f i) (entries_from f (i + 1) (n - (i + 1))))

ok_is : (r : Result Record Rule) (k : Record) → Some k ≡ result_ok r → r ≡ Ok k
ok_is (Ok x) k e = cc
ok_is (Err x) k e = cc

-- ---- what record i gives member j; r is its reading
module _ (j : ℕ) (x : ℤ) where
  other : (k : ℕ) (e : Entry) → MemberIs k e → (k ≡ j → ⊥) → cell_of 1000000 (value (offers_of (e ∷ [])) j x) ≡ 0
  unfolding cell_of value offers_of higher
  other k (link l) m h = refl
  other k (offer o) m h = rw (other_offered o j x (λ q. h (sym (q ∙ m))))
  other k (begins n) m h = refl
  other k (fault n) m h = refl

  not_offered : (e : Entry) → ((o : Offer) → e ≡ offer o → ⊥) → cell_of 1000000 (value (offers_of (e ∷ [])) j x) ≡ 0
  unfolding cell_of value offers_of
  not_offered (link l) h = refl
  not_offered (offer o) h = absurd (h o refl)
  not_offered (begins k) h = refl
  not_offered (fault k) h = refl

  its_offer : (o : Offer) → o.member ≡ j → cell_of 1000000 (value (offers_of (offer o ∷ [])) j x) ≡ cell_of 1000000 (worth o.terms x)
  unfolding value offers_of
  its_offer o e =
      ap (λ (k : ℕ). cell_of 1000000 (higher (offered o k x) none)) (sym e)
      ∙ ap (λ (v : Option ℤ). cell_of 1000000 v) (higher_none (offered o o.member x) ∙ own_offered o x)

module _ (f : List ℕ) (i : ℕ) where
  pub other_member : (j : ℕ) → (byte f i 1 ≡ j → ⊥) → (x : ℤ) → given f i j x ≡ 0
  unfolding given
  other_member j h x = other j x (byte f i 1) (entry_at f i) (entry_known f i).member_is h

  pub a_beginning : byte f i 0 ≡ 6 → (j : ℕ) (x : ℤ) → given f i j x ≡ 0
  unfolding given
  a_beginning e j x = not_offered j x (entry_at f i) (kind_6 f i e)

  module _ (r : Result Record Rule) (is : r ≡ reading_of (entry_at f i)) where
    -- it is read as no offer: as another record, or as a fault
    pub no_offer_lem : ((m : Member) (t : Terms) → r ≡ Ok (Record.Offer m t) → ⊥) → (j : ℕ) (x : ℤ) → given f i j x ≡ 0
    unfolding given
    no_offer_lem d j x = not_offered j x (entry_at f i) (not_offer r (entry_at f i) is d)

    pub a_fault : None ≡ result_ok r → (j : ℕ) (x : ℤ) → given f i j x ≡ 0
    a_fault e = no_offer_lem (λ m t q. let s = e ∙ ap result_ok q in cc (s))

    -- k is the record that is read
    module _ (k : Record) (e : Some k ≡ result_ok r) where
      pub no_offer : ((m : Member) (t : Terms) → k ≡ Record.Offer m t → ⊥) → (j : ℕ) (x : ℤ) → given f i j x ≡ 0
      no_offer d = no_offer_lem (λ m t q. let s = e ∙ ap result_ok q in d m t (cc (s)))

      module _ (m : Member) (t : Terms) (o : k ≡ Record.Offer m t) where
        entry_is : entry_at f i ≡ offer (record { member = m.0; terms = terms_in t })
        entry_is = offer_is (entry_at f i) m t (sym is ∙ ok_is r (Record.Offer m t) (ap (λ (q : Record). Some q) (sym o) ∙ e))

        known : Known (byte f i 1) (offer (record { member = m.0; terms = terms_in t }))
        known = rw entry_is at (entry_known f i)

        gives : (j : ℕ) → byte f i 1 ≡ j → (x : ℤ) → given f i j x ≡ cell_of 1000000 (worth (terms_in t) x)
        unfolding given
        gives j h x =
            ap (λ (z : Entry). cell_of 1000000 (value (offers_of (z ∷ [])) j x)) entry_is
            ∙ its_offer j x (record { member = m.0; terms = terms_in t }) (known.member_is ∙ h)

        pub terms_limited : (x : ℤ) → Limited 1000000 (worth (terms_in t) x)
        terms_limited = known.fits.worths

        pub an_offer : (j : ℕ) → byte f i 1 ≡ j → (s : Span) → ((x : ℤ) → worth (terms_in t) x ≡ worth (spanned s) x) → Offers (given f i j) (Some s)
        unfolding cell_in
        an_offer j h s same = λ x. gives j h x ∙ ap (cell_of 1000000) (same x)

-- ---- a point is a span of its own units alone
alone : (u x : ℤ) → eq_z x u ≡ within u u x
unfolding within eq_z
alone u x = grind (arith, ints)

pub point_spanned : (u p x : ℤ) → worth (P.Terms.point u p) x ≡ worth (P.Terms.span u u (pos 0) p) x
unfolding worth
point_spanned u p x = rw (zero-*ℤ x, alone u x) (ap (λ (q : ℤ). cond (within u u x) (some q) none) (omega (arith, ints)))

-- ---- the line that an offer's terms are
module _ (t : Terms) where
  pub point_is : (u : Units) (p : Price) → t ≡ Terms.Point u p → (x : ℤ) → worth (terms_in t) x ≡ worth (P.Terms.span u.0 u.0 (pos 0) p.0) x
  unfolding terms_in
  point_is u p e x = rw e (point_spanned u.0 p.0 x)

  pub span_is : (l u : Units) (a : Slope) (b : Price) → t ≡ Terms.Span l u a b → (x : ℤ) → worth (terms_in t) x ≡ worth (P.Terms.span l.0 u.0 a.0 b.0) x
  unfolding terms_in
  span_is l u a b e x = rw e refl

  pub terms_ranged : (l u a b : ℤ) → ((x : ℤ) → worth (terms_in t) x ≡ worth (P.Terms.span l u a b) x) → ((x : ℤ) → Limited 1000000 (worth (terms_in t) x)) → Ranged l u a b
  unfolding worth
  terms_ranged l u a b same h x e =
      let q : Limited 1000000 (cond (within l u x) (some ((a *ℤ x) +ℤ b)) none) = subst (Limited 1000000) (same x) (h x) in
      let r = rw e at q in
      true_within _ _ _ r.0 r.1
