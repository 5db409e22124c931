-- A span's two records, each by the tests of its reading in their order. Assumes nothing.
use mathlib.Core.Path.{◌≡◌, refl}
use mathlib.Core.Bool.{Bool, true, false, not}
use mathlib.Core.List.{List}
use Prim.Native.Nat.{ℕ, zero, suc, ◌+◌, ◌-◌, ◌/◌, ◌≤◌, ◌<◌}
use native.Mathlib.Omega.{arith}
use native.Mathlib.Numerals.{add-one}
use lib.IntN.{ℤ, ◌+ℤ◌, ◌*ℤ◌}
use lib.ListN.{length}
use lib.Signed.{lt_z}
use borrow.Author.Tests.{lt-ltb, le-ltb}
use Rattle.problem.specs.Problem.{Terms}
use Rattle.records.specs.Records.{byte, units_at, number_at, is_price, names, fields_fit, unfinished, unbegun, bad_span, begin_at, span_of, span_at}
use Rattle.records.specs.Records.Entry.{offer, begins, fault}

-- ---- record i, of kind 6 or 7
module _ (f : List ℕ) (i : ℕ) where
  module _ (h : fields_fit f i ≡ false) where
    pub begin_field : begin_at f i ≡ fault 4
    unfolding begin_at
    begin_field = rw h refl

    pub span_field : span_at f i ≡ fault 4
    unfolding span_at
    span_field = rw h refl

  module _ (h : fields_fit f i ≡ true) where
    pub begin_last : length f / 8 ≤ i + 1 → begin_at f i ≡ fault 13
    unfolding begin_at unfinished
    begin_last l = rw (h, le-ltb (suc i) (length f / 8) (omega arith)) refl

    pub begin_other : i + 1 < length f / 8 → names f (i + 1) 7 (byte f i 1) ≡ false → begin_at f i ≡ fault 13
    unfolding begin_at unfinished
    begin_other l e = rw (h, lt-ltb (suc i) (length f / 8) (omega arith), rw (add-one i) at e) refl

    pub begin_here : i + 1 < length f / 8 → names f (i + 1) 7 (byte f i 1) ≡ true → begin_at f i ≡ begins (byte f i 1)
    unfolding begin_at unfinished
    begin_here l e = rw (h, lt-ltb (suc i) (length f / 8) (omega arith), rw (add-one i) at e) refl

    module _ (t : Bool) (is : unbegun f i ≡ t) where
      pub span_unbegun : t ≡ true → span_at f i ≡ fault 13
      unfolding span_at
      span_unbegun e = rw (h, is, e) refl

      pub span_here : t ≡ false → span_at f i ≡ span_of (byte f i 1) (units_at f (i - 1)) (units_at f i) (number_at f i) (number_at f (i - 1))
      unfolding span_at
      span_here e = rw (h, is, e) refl

-- a kind 7 is not after its kind 6 at the start, and later by the record before it
pub unbegun_first : (f : List ℕ) (i : ℕ) → i ≡ 0 → unbegun f i ≡ true
unfolding unbegun
unbegun_first f i e = rw e refl

pub unbegun_later : (f : List ℕ) (i : ℕ) → (i ≡ 0 → ⊥) → unbegun f i ≡ not (names f (i - 1) 6 (byte f i 1))
unfolding unbegun
unbegun_later f zero h = absurd (h refl)
unbegun_later f (suc i) h = let at : i ≡ suc i - 1 = omega arith in rw (← at) refl

-- ---- a span's four numbers
module _ (j : ℕ) (l u a b : ℤ) where
  abbrev LowPrice : Bool → Type 0
  LowPrice t = is_price ((a *ℤ l) +ℤ b) ≡ t

  abbrev HighPrice : Bool → Type 0
  HighPrice t = is_price ((a *ℤ u) +ℤ b) ≡ t

  pub span_turned : lt_z u l ≡ true → span_of j l u a b ≡ fault 14
  unfolding span_of bad_span
  span_turned h = rw h refl

  pub span_low : lt_z u l ≡ false → LowPrice false → span_of j l u a b ≡ fault 14
  unfolding span_of bad_span
  span_low h p = rw (h, p) refl

  pub span_high : lt_z u l ≡ false → LowPrice true → HighPrice false → span_of j l u a b ≡ fault 14
  unfolding span_of bad_span
  span_high h p q = rw (h, p, q) refl

  pub span_sound : lt_z u l ≡ false → LowPrice true → HighPrice true → span_of j l u a b ≡ offer (record { member = j; terms = Terms.span l u a b })
  unfolding span_of bad_span
  span_sound h p q = rw (h, p, q) refl
