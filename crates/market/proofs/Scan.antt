-- The pass for the first link that closes a ring, turn by turn, in the code's terms (refusal 9). Assumes nothing.
use mathlib.Core.Path.{◌≡◌, refl, sym, ap, ap₂, ◌∙◌, subst, subst₂}
use mathlib.Core.Bool.{true, false, cond, ◌&&◌}
use mathlib.Core.List.{List, [], ◌∷◌, ◌++◌, append-nil, append_assoc}
use mathlib.Core.Option.{none, some}
use Prim.Native.Nat.{ℕ, zero, suc, ◌+◌, ◌-◌, ◌/◌, ◌^◌, ◌≤◌, ◌<◌}
use native.Mathlib.Nat.{not-suc-le-zero}
use native.Mathlib.Numerals.{add-one}
use native.Mathlib.Omega.{arith}
use lib.ListN.{length, take, length-append}
use borrow.Author.Count.{below_more}
use Rattle.std.proofs.lemmas.Bool.{and_parts, false_from_ne_true}
use Rattle.problem.specs.Problem.{Link, joined}
use Rattle.problem.proofs.Tree.{Joined, Within}
use Rattle.problem.proofs.Joins.{joined_is}
use Rattle.network.specs.declared.bits.Members.{Members}
use Rattle.network.specs.inner.Sets.{holds, set_in}
use Rattle.network.specs.inner.Parts.{touches, gather, Merged}
use lib.Bits.{bit_or}
use Rattle.network.proofs.Merges.{Ringless, few, Keeps, keeps_none, keeps_more, closing, not_closing}
use Rattle.std.proofs.lemmas.List.{map-append, get_or-take, length-take-le}
use Rattle.records.specs.Records.{Entry, entry_at, entries_from, entries}
use Rattle.records.specs.Records.Entry.{link, offer, begins, fault}
use Rattle.records.specs.Market.{links_of}
use Rattle.records.proofs.Entries.{Fits, entry_fits}
use Rattle.market.specs.Refusals.{first_record, closes}
use Rattle.market.specs.declared.line.Line.{Line}
use Rattle.market.specs.inner.Lines.{link_in, kept}
use Rattle.market.proofs.LinkRecords.{links_other, links_all, links_none, links_skip, links_here}
use Rattle.market.proofs.Passes.{earlier, rest_from, record_start, record_none, record_hit, record_miss}

-- the links before record i, the latest first
abbrev pub before : List ℕ → ℕ → List Link
before f i = links_of (earlier f i)

before_within : (f : List ℕ) (i : ℕ) → Within 32 (before f i)
unfolding earlier links_of
before_within f zero = tt
before_within f (suc i) = go (entry_at f i) (entry_fits f i) (before_within f i)
  where
    go : (e : Entry) → Fits e → Within 32 (links_of (earlier f i)) → Within 32 (links_of (e ∷ earlier f i))
    go (link l) h w = ((h.low, h.below, h.high), w)
    go (offer o) h w = w
    go (begins j) h w = w
    go (fault k) h w = w

-- ---- the search among the sets, of which the next is e: a and b are the ends' indices, m their sets made one so far

pub record Searched (ms : ℕ → ℕ) (a b m e : ℕ) : Type 0 where
  pub gathers : m ≡ gather ms a b e
  pub clear : (i : ℕ) → i < e → (holds (ms i) a && holds (ms i) b) ≡ false

pub searched_none : (ms : ℕ → ℕ) (a b m : ℕ) → m ≡ bit_or (2 ^ a) (2 ^ b) → Searched ms a b m 0
unfolding gather
searched_none ms a b m e = record { gathers = e; clear = λ i l. absurd (not-suc-le-zero l) }

pub searched_more : (ms : ℕ → ℕ) (a b m m' e p : ℕ) → p ≡ ms e → (holds p a && holds p b) ≡ false → m' ≡ cond (touches p a b) (bit_or m p) m → Searched ms a b m e
    → Searched ms a b m' (e + 1)
unfolding gather
searched_more ms a b m m' e p is f q S = record {
  gathers =
      q ∙ ap₂ (λ (x y : ℕ). cond (touches x a b) (bit_or y x) y) is S.gathers ∙ ap (gather ms a b) (sym (add-one e));
  clear = below_more _ _ S.clear (subst (λ (x : ℕ). (holds x a && holds x b) ≡ false) is f);
}

-- the sets before the next are among others
gather_same : (ms ns : ℕ → ℕ) (a b e : ℕ) → ((i : ℕ) → i < e → ms i ≡ ns i) → gather ms a b e ≡ gather ns a b e
unfolding gather
gather_same ms ns a b zero h = refl
gather_same ms ns a b (suc e) h =
    ap₂ (λ (x y : ℕ). cond (touches x a b) (bit_or y x) y) (h e (omega arith)) (gather_same ms ns a b e (λ i l. h i (omega arith)))

pub set_among : (ps : List Members) (k i : ℕ) → i < k → set_in (take k ps) i ≡ set_in ps i
set_among ps k i l = ap (λ (p : Members). p.0) (get_or-take k ps i (record { 0 = 0 }) l)

pub searched_among : (ps : List Members) (k a b m e : ℕ) → e ≤ k → Searched (set_in (take k ps)) a b m e → Searched (set_in ps) a b m e
searched_among ps k a b m e h S = record {
  gathers = S.gathers ∙ gather_same (set_in (take k ps)) (set_in ps) a b e (λ i l. set_among ps k i (omega arith));
  clear = λ i l. subst (λ (x : ℕ). (holds x a && holds x b) ≡ false) (set_among ps k i (omega arith)) (S.clear i l);
}

-- ---- the sets ps keep the links before record i of n, of which none closes a ring; s are those links
pub record Pass (f : List ℕ) (ps : List Members) (s : List Line) (n i : ℕ) : Type 0 where
  pub answer : first_record closes 0 [] (entries f) ≡ rest_from closes f n i
  pub counted : length s ≡ length (before f i)
  pub ringless : Ringless (before f i)
  pub keeps : Keeps (before f i) (set_in ps) (length s)
  pub stored : links_of (entries f) ≡ kept s ++ links_of (entries_from f i (n - i))

pub pass_start : (f : List ℕ) (ps : List Members) → Pass f ps [] (length f / 8) 0
unfolding earlier links_of
pass_start f ps = record { answer = record_start closes f; counted = refl; ringless = tt; keeps = keeps_none (set_in ps); stored = links_all f }

pub pass_end : (f : List ℕ) (ps : List Members) (s : List Line) (n i : ℕ) → n ≤ i → Pass f ps s n i → (first_record closes 0 [] (entries f) ≡ none) × (kept s ≡ links_of (entries f))
pass_end f ps s n i h P =
    (P.answer ∙ record_none closes f n i h, sym (P.stored ∙ ap (λ (ls : List Link). kept s ++ ls) (links_none f i n h) ∙ append-nil (kept s)))

-- ---- record i of n, in the pass
module _ {f : List ℕ} {ps : List Members} {s : List Line} {n i : ℕ} (P : Pass f ps s n i) (more : i < n) where
  -- it is no link
  module _ (other : (l : Link) → entry_at f i ≡ link l → ⊥) where
    other_closes : (e : Entry) → ((l : Link) → e ≡ link l → ⊥) → closes (earlier f i) e ≡ false
    unfolding closes
    other_closes (link l) d = absurd (d l refl)
    other_closes (offer o) d = refl
    other_closes (begins j) d = refl
    other_closes (fault k) d = refl

    pub pass_skip : Pass f ps s n (i + 1)
    unfolding earlier
    pass_skip =
        let q : before f i ≡ before f (i + 1) = rw (add-one i) (sym (links_other (entry_at f i) (earlier f i) other)) in
        record {
          answer = P.answer ∙ record_miss closes f n i more (other_closes (entry_at f i) other);
          counted = P.counted ∙ ap length q;
          ringless = subst Ringless q P.ringless;
          keeps = subst (λ (ls : List Link). Keeps ls (set_in ps) (length s)) q P.keeps;
          stored = P.stored ∙ ap (λ (ls : List Link). kept s ++ ls) (links_skip f i n more other);
        }

  -- it is a link, kept as x
  module _ (x : Line) (is : entry_at f i ≡ link (link_in x)) where
    -- the ends' indices
    a : ℕ
    a = x.ends.a.0 - 1

    b : ℕ
    b = x.ends.b.0 - 1

    low : x.ends.a.0 ≡ suc a
    unfolding a
    low = omega (arith, x.ends.numbered.0.0)

    high : x.ends.b.0 ≡ suc b
    unfolding b
    high = omega (arith, x.ends.numbered.1.0)

    closes_is : closes (earlier f i) (entry_at f i) ≡ joined (before f i) (suc a) (suc b)
    unfolding closes
    closes_is = ap (closes (earlier f i)) is ∙ ap₂ (joined (before f i)) low high

    -- a set, of the k that there are, holds both ends
    pub pass_hit : (k e : ℕ) → k ≡ length s → k ≤ length ps → e < length (take k ps) → (holds (set_in (take k ps) e) (x.ends.a.0 - 1) && holds (set_in (take k ps) e) (x.ends.b.0 - 1)) ≡ true
        → first_record closes 0 [] (entries f) ≡ some i
    unfolding a b
    pass_hit k e all wide l g =
        let below : e < k = omega (arith, length-take-le k ps wide) in
        let same = set_among ps k e below in
        let t = and_parts (holds (set_in (take k ps) e) a) (holds (set_in (take k ps) e) b) g in
        P.answer
        ∙ record_hit closes f n i more
        (closes_is
        ∙ (joined_is (before f i) (suc a) (suc b)).1
        (closing (before f i) (set_in ps) (length s) P.keeps a b e (omega arith) (subst (λ (m : ℕ). holds m a ≡ true) same t.0) (subst (λ (m : ℕ). holds m b ≡ true) same t.1)))

    -- none of them does
    module _ (k m e : ℕ) (all : k ≡ length s) (wide : k ≤ length ps) (ended : length (take k ps) ≤ e) (within : e ≤ length (take k ps))
        (T : Searched (set_in (take k ps)) (x.ends.a.0 - 1) (x.ends.b.0 - 1) m e) where
      S : Searched (set_in ps) a b m (length s)
      unfolding a b
      S =
          let last : e ≡ length s = omega (arith, length-take-le k ps wide) in
          subst (Searched (set_in ps) a b m) last (searched_among ps k a b m e (omega arith) T)

      apart : Joined (before f i) (suc a) (suc b) → ⊥
      apart = not_closing (before f i) (set_in ps) (length s) P.keeps a b (λ z. omega (arith, x.below, low, high, z)) S.clear

      no_ring : Ringless (link_in x ∷ before f i)
      no_ring = (λ j. apart (subst₂ (Joined (before f i)) low high j), P.ringless)

      -- there is room for one more
      pub room : length s < 31
      room =
          omega (arith, few 32 (link_in x ∷ before f i) (omega arith) ((x.ends.numbered.0.0, x.below, x.ends.numbered.1.1), before_within f i) no_ring, P.counted)

      not_closed : closes (earlier f i) (entry_at f i) ≡ false
      not_closed = closes_is ∙ false_from_ne_true (joined (before f i) (suc a) (suc b)) (λ t. apart ((joined_is (before f i) (suc a) (suc b)).0 t))

      one_more : link_in x ∷ before f i ≡ before f (i + 1)
      unfolding earlier links_of
      one_more = rw (add-one i, is) refl

      pub pass_link : (ps' : List Members) (t : List Line) (j : ℕ) → t ≡ s ++ (x ∷ []) → j ≡ length s → Merged (set_in ps) (set_in ps') j (x.ends.a.0 - 1) (x.ends.b.0 - 1) m
          → Pass f ps' t n (i + 1)
      unfolding a b
      pass_link ps' t j e count M =
          let longer : length t ≡ suc (length s) = ap length e ∙ omega (arith, length-append s (x ∷ [])) in
          let kept_more : kept t ≡ kept s ++ (link_in x ∷ []) = ap kept e ∙ map-append link_in s (x ∷ []) in
          record {
            answer = P.answer ∙ record_miss closes f n i more not_closed;
            counted = longer ∙ ap suc P.counted ∙ ap length one_more;
            ringless = subst Ringless one_more no_ring;
            keeps =
                subst₂ (λ (ls : List Link) (j : ℕ). Keeps ls (set_in ps') j) one_more (sym longer)
                (keeps_more (before f i) (link_in x) a b low high (set_in ps) (set_in ps') (length s) P.keeps
                (subst₂ (λ (k : ℕ) (y : ℕ). Merged (set_in ps) (set_in ps') k a b y) count S.gathers M));
            stored =
                P.stored ∙ ap (λ (ls : List Link). kept s ++ ls) (links_here f i n more (link_in x) is)
                ∙ sym (append_assoc (kept s) (link_in x ∷ []) (links_of (entries_from f (i + 1) (n - (i + 1)))))
                ∙ ap (λ (ls : List Link). ls ++ links_of (entries_from f (i + 1) (n - (i + 1)))) (sym kept_more);
          }
