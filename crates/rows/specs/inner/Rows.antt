-- What one record gives a member, what a span gives, and a message taken into a row, cell by cell.
use Rattle.std.specs.Prelude.{◌≡◌, List, [], ◌∷◌, ℕ, ◌+◌, ◌-◌, ◌<◌, ◌≤◌, length, get_or, ℤ, Option, Some, None}
use Rattle.std.proofs.Math.Option as Maybe
use Rattle.numbers.specs.declared.Price.{Price}
use Rattle.numbers.specs.inner.Held.{price}
use Rattle.problem.specs.Problem.{Terms, worth, value}
use Rattle.problem.proofs.Cell.{◌⊕◌}
use Rattle.problem.proofs.Max.{max_to, argmax}
use Rattle.problem.proofs.Prices.{cell_of}
use Rattle.records.specs.Records.{entry_at}
use Rattle.records.specs.Market.{offers_of}
use Rattle.rows.specs.declared.span.Span.{Span}

-- the cell that record i alone gives member j for x units
unfoldable pub given : List ℕ → ℕ → ℕ → ℤ → ℕ
given f i j x = cell_of 1000000 (value (offers_of (entry_at f i ∷ [])) j x)

-- the terms that a span stands for
abbrev pub spanned : Span → Terms
spanned s = Terms.span s.low.0 s.high.0 s.slope.0 s.base.0

-- the cell that a span gives for x units
unfoldable pub cell_in : Span → ℤ → ℕ
cell_in s x = cell_of 1000000 (worth (spanned s) x)

-- what gives the cell g x for x units is this span, or nothing
abbrev pub Offers : (ℤ → ℕ) → Option Span → Type 0
Offers g None = (x : ℤ) → g x ≡ 0
Offers g (Some s) = (x : ℤ) → g x ≡ cell_in s x

-- the worth that a table gives
abbrev pub worth_of : Maybe.Option ℤ → Option Price
worth_of Maybe.none = None
worth_of (Maybe.some v) = Some (price v)

-- what the message at p makes with the row at cell x
unfoldable pub meets : List ℕ → List ℕ → ℕ → ℕ → ℕ
meets row msg x p = get_or msg p 0 ⊕ get_or row (x + (length msg - 1 - p)) 0

-- each cell that is left is the best that the message makes with the row, and its choice the smallest place that makes it;
-- past those that are left, cells and choices are as they were
pub record Combined (row msg choice row' choice' : List ℕ) : Type 0 where
  pub cells : (x : ℕ) → x < length row + 1 - length msg → get_or row' x 0 ≡ max_to (meets row msg x) (length msg - 1)
  pub picks : (x : ℕ) → x < length row + 1 - length msg → get_or choice' x 0 ≡ argmax (meets row msg x) (length msg - 1)
  pub past_cells : (x : ℕ) → length row + 1 - length msg ≤ x → get_or row' x 0 ≡ get_or row x 0
  pub past_picks : (x : ℕ) → length row + 1 - length msg ≤ x → get_or choice' x 0 ≡ get_or choice x 0
