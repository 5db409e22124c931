-- A span taken into a row, cell by cell: which cells it covers, and what each of them becomes. Assumes nothing.
use mathlib.Core.Path.{◌≡◌, refl, sym, ap, ◌∙◌}
use mathlib.Core.Bool.{true, false, ◌&&◌}
use mathlib.Core.List.{List}
use Rattle.std.proofs.Math.Bool.{and-false}
use mathlib.Core.Option.{some}
use Rattle.std.proofs.lemmas.Int.{ints}
use Prim.Native.Nat.{ℕ, ◌+◌, ◌^◌, ◌≤◌, ◌<◌, max}
use native.Mathlib.Omega.{arith}
use lib.Dec.{T, leb, ltb}
use lib.IntN.{ℤ, pos, negsuc, nat_abs, ◌+ℤ◌, ◌-ℤ◌, ◌*ℤ◌}
use lib.ListN.{length, get_or, set, length-set}
use lib.Seq.{get_or-set_same, get_or-set_other}
use lib.Signed.{le_z, lt_z, non_neg}
use mir.Syntax.{w32, w64}
use mir.Val.{SFits, Fits}
use borrow.Author.Count.{below_more}
use borrow.Author.Tests.{le-leb, lt-leb, lt-ltb, le-ltb}
use Rattle.numbers.specs.Whole.{within}
use Rattle.numbers.proofs.Tests.{within_true}
use Rattle.numbers.proofs.Times.{times_less}
use Rattle.problem.specs.Problem.{worth}
use Rattle.problem.proofs.Prices.{cell_of}
use Rattle.rows.specs.declared.span.Span.{Span}
use Rattle.rows.specs.inner.Rows.{cell_in}

-- the price on a span's line for x units
abbrev pub on_line : Span → ℤ → ℤ
on_line s x = (s.slope.0 *ℤ x) +ℤ s.base.0

-- from cell to cell the price falls by the slope
line_less : (s : Span) (t : ℤ) (x : ℕ) → on_line s (t -ℤ pos x) -ℤ s.slope.0 ≡ on_line s (t -ℤ pos (x + 1))
line_less s t x =
    let e : t -ℤ pos (x + 1) ≡ (t -ℤ pos x) -ℤ pos 1 = omega (arith, ints) in
    rw e (omega (arith, ints, times_less s.slope.0 (t -ℤ pos x)))

module _ (s : Span) where
  pub outside : (x : ℤ) → within s.low.0 s.high.0 x ≡ false → cell_in s x ≡ 0
  unfolding cell_in cell_of worth
  outside x e = rw e refl

  module _ (x : ℤ) (e : within s.low.0 s.high.0 x ≡ true) where
    pub inside : cell_in s x ≡ cell_of 1000000 (some (on_line s x))
    unfolding cell_in worth
    inside = rw e refl

    pub line_small : nat_abs (on_line s x) < 2 ^ 62
    line_small = let l = within_true _ _ _ (s.ranged x e) in omega (arith, ints)

-- ---- where a span starts and ends in a row whose cell 0 is for t units

pub exchanged : (a b c : ℤ) → a -ℤ b ≡ c → b ≡ a -ℤ c
exchanged a b c e = omega (arith, ints)

-- high is k units below the top
module _ (t high : ℤ) (k : ℕ) (e : t -ℤ high ≡ pos k) where
  pub start_units : high ≡ t -ℤ pos k
  start_units = exchanged t high (pos k) e

  pub start_place : (x : ℕ) → le_z (t -ℤ pos x) high ≡ leb k x
  start_place x = grind (arith, ints)

pub start_top : (t high : ℤ) → lt_z high t ≡ false → (t ≡ t -ℤ pos 0) × ((x : ℕ) → le_z (t -ℤ pos x) high ≡ leb 0 x)
start_top t high e = (omega (arith, ints), λ x. grind (arith, ints))

module _ (t low : ℤ) where
  pub cells_none : (r : ℤ) → r ≡ t -ℤ low → lt_z r (pos 0) ≡ true → (x : ℕ) → le_z low (t -ℤ pos x) ≡ ltb x 0
  cells_none r e h x = grind (arith, ints)

  pub cells_some : (k : ℕ) → pos k ≡ t -ℤ low → (x : ℕ) → le_z low (t -ℤ pos x) ≡ ltb x (k + 1)
  cells_some k e x = grind (arith, ints)

-- a place that is not below 0 is an index
pub index : (z : ℤ) → lt_z z (pos 0) ≡ false → SFits w32 z → T (non_neg z) × Fits w64 (nat_abs z)
index (pos n) e f = (tt, record { fits = omega (arith, f.sfits) })
index (negsuc n) e f = cc (e)

-- where high is below the top, its place is not below 0
pub below_top : (t high z : ℤ) → z ≡ t -ℤ high → lt_z high t ≡ true → lt_z z (pos 0) ≡ false
below_top t high z e h = grind (arith, ints)

-- the cells of a row of n from `from` on that are below `end`
pub record Covered (s : Span) (top : ℤ) (n from end : ℕ) : Type 0 where
  pub starts : (x : ℕ) → le_z (top -ℤ pos x) s.high.0 ≡ leb from x
  pub ends : (x : ℕ) → x < n → le_z s.low.0 (top -ℤ pos x) ≡ ltb x end
  pub short : end ≤ n

module _ (s : Span) (top : ℤ) (n from end : ℕ) (C : Covered s top n from end) (x : ℕ) where
  covers : x < n → within s.low.0 s.high.0 (top -ℤ pos x) ≡ ltb x end && leb from x
  unfolding within
  covers l = rw (C.ends x l, C.starts x) refl

  pub covered : from ≤ x → x < end → within s.low.0 s.high.0 (top -ℤ pos x) ≡ true
  covered h k = covers (omega (arith, C.short)) ∙ rw (lt-ltb x end k, le-leb from x h) refl

  before : x < n → x < from → cell_in s (top -ℤ pos x) ≡ 0
  before l h = outside s (top -ℤ pos x) (covers l ∙ rw (lt-leb from x h) (and-false (ltb x end)))

  after : x < n → end ≤ x → cell_in s (top -ℤ pos x) ≡ 0
  after l h = outside s (top -ℤ pos x) (covers l ∙ rw (le-ltb x end h) refl)

-- the cells below x are done, and p is the price at cell x
pub record Putting (s : Span) (top : ℤ) (from x : ℕ) (p : ℤ) (row₀ row : List ℕ) : Type 0 where
  pub same : length row ≡ length row₀
  pub past : from ≤ x
  pub price : p ≡ on_line s (top -ℤ pos x)
  pub put : (y : ℕ) → y < x → y < length row₀ → get_or row y 0 ≡ max (get_or row₀ y 0) (cell_in s (top -ℤ pos y))
  pub left : (y : ℕ) → x ≤ y → get_or row y 0 ≡ get_or row₀ y 0

module _ (s : Span) (top : ℤ) (row₀ : List ℕ) (from end : ℕ) (C : Covered s top (length row₀) from end) where
  pub put_none : (p : ℤ) → p ≡ on_line s (top -ℤ pos from) → Putting s top from from p row₀ row₀
  put_none p e = record {
    same = refl;
    past = omega arith;
    price = e;
    put = λ y h l. omega (arith, before s top (length row₀) from end C y l h);
    left = λ y h. refl;
  }

  module _ (x : ℕ) (p : ℤ) (row : List ℕ) (I : Putting s top from x p row₀ row) where
    pub put_more : (c : ℕ) (q : ℤ) → x < end → c ≡ max (get_or row x 0) (cell_of 1000000 (some p)) → q ≡ p -ℤ s.slope.0 → Putting s top from (x + 1) q row₀ (set row x c)
    put_more c q h e f = record {
      same = length-set row x c ∙ I.same;
      past = omega (arith, I.past);
      price = f ∙ ap (λ (z : ℤ). z -ℤ s.slope.0) I.price ∙ line_less s top x;
      put = below_more (λ y. y < length row₀ → get_or (set row x c) y 0 ≡ max (get_or row₀ y 0) (cell_in s (top -ℤ pos y))) x (λ y k b. get_or-set_other row x y c 0 (omega arith) ∙ I.put y k b) (λ b. at_x);
      left = λ y k. get_or-set_other row x y c 0 (λ r. omega arith) ∙ I.left y (omega arith);
    }
      where
        gives : cell_in s (top -ℤ pos x) ≡ cell_of 1000000 (some p)
        gives =
            inside s (top -ℤ pos x) (covered s top (length row₀) from end C x I.past h)
            ∙ ap (λ (z : ℤ). cell_of 1000000 (some z)) (sym I.price)

        at_x : get_or (set row x c) x 0 ≡ max (get_or row₀ x 0) (cell_in s (top -ℤ pos x))
        at_x = get_or-set_same row x c 0 (omega (arith, I.same, C.short)) ∙ omega (arith, e, I.left x (omega arith), gives)

    pub put_done : end ≤ x → (y : ℕ) → y < length row₀ → get_or row y 0 ≡ max (get_or row₀ y 0) (cell_in s (top -ℤ pos y))
    put_done h y l =
        grind (arith, I.put y, I.left y, after s top (length row₀) from end C y l)

-- `Putting`, without naming the span
abbrev pub Put : List ℕ → ℕ → ℤ → ℤ → ℕ → List ℕ → ℤ → ℕ → Type 0
Put row₀ end slope p₀ from row p x =
    (s : Span) (top : ℤ) → s.slope.0 ≡ slope → Covered s top (length row₀) from end → p₀ ≡ on_line s (top -ℤ pos from) → Putting s top from x p row₀ row
