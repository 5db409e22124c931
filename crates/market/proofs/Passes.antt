-- A pass over the records for the first that passes a test, and over the members for the lowest, turn by turn, in the code's
-- terms. Assumes nothing.
use mathlib.Core.Path.{◌≡◌, refl, ap, ap₂}
use mathlib.Core.Bool.{Bool, true, false, cond}
use mathlib.Core.List.{List, [], ◌∷◌}
use mathlib.Core.Option.{Option, none, some}
use Prim.Native.Nat.{ℕ, zero, suc, ◌+◌, ◌-◌, ◌/◌, ◌≤◌, ◌<◌}
use native.Mathlib.Nat.{sub-zero}
use native.Mathlib.Omega.{arith}
use native.Mathlib.Numerals.{add-one}
use lib.Dec.{ltb}
use lib.ListN.{length}
use borrow.Author.Count.{below_more}
use borrow.Author.Tests.{lt-ltb}
use Rattle.std.proofs.lemmas.Bool.Decides.{nat_tests}
use Rattle.problem.specs.Problem.{lowest}
use Rattle.problem.proofs.Count.{lowest_hit, lowest_is}
use Rattle.records.specs.Records.{Entry, entry_at, entries_from, entries}
use Rattle.records.specs.Refusals.{place_if}
use Rattle.records.proofs.Entries.{rest, ended}
use Rattle.market.specs.Refusals.{lowest_member, first_record}

-- the records before record i, the latest first
unfoldable pub earlier : List ℕ → ℕ → List Entry
earlier f zero = []
earlier f (suc i) = entry_at f i ∷ earlier f i

-- ---- the records of f, of which the next is i
module _ (p : List Entry → Entry → Bool) (f : List ℕ) where
  -- what the rest of the pass finds, of n records
  abbrev pub rest_from : ℕ → ℕ → Option ℕ
  rest_from n i = first_record p i (earlier f i) (entries_from f i (n - i))

  pub record_start : first_record p 0 [] (entries f) ≡ rest_from (length f / 8) 0
  unfolding entries earlier
  record_start = rw (sub-zero (length f / 8))

  pub record_none : (n i : ℕ) → n ≤ i → rest_from n i ≡ none
  unfolding first_record
  record_none n i h = rw (ended f i n h)

  pub record_hit : (n i : ℕ) → i < n → p (earlier f i) (entry_at f i) ≡ true → rest_from n i ≡ some i
  unfolding first_record
  record_hit n i h e = rw (rest f i n h, first_record, e)

  pub record_miss : (n i : ℕ) → i < n → p (earlier f i) (entry_at f i) ≡ false → rest_from n i ≡ rest_from n (i + 1)
  unfolding first_record earlier
  record_miss n i h e = rw (rest f i n h, first_record, e, add-one i)

-- ---- members 1 to n, of which the next is j + 1
module _ (p : ℕ → Bool) where
  -- members 1 to j do not pass
  abbrev pub Passed : ℕ → Type 0
  Passed j = (k : ℕ) → k < j → p (suc k) ≡ false

  pub member_miss : (j : ℕ) → Passed j → p (suc j) ≡ false → Passed (j + 1)
  member_miss j h e = below_more _ j h e

  pub member_hit : (n j : ℕ) → Passed j → j < n → p (suc j) ≡ true → lowest_member p n ≡ some (j + 1)
  unfolding lowest_member place_if
  member_hit n j h l e = rw (lowest_is (λ k. p (suc k)) n j l e h, lt-ltb j n l, add-one j)

  pub member_none : (n j : ℕ) → Passed j → n ≤ j → lowest_member p n ≡ none
  unfolding lowest_member place_if
  member_none n j h l = let t = lowest (λ k. p (suc k)) n in grind (arith, nat_tests, lowest_hit (λ k. p (suc k)) n, h t)

-- ---- two tests that agree on the members

lowest_same : (p q : ℕ → Bool) (n : ℕ) → ((k : ℕ) → k < n → p k ≡ q k) → lowest p n ≡ lowest q n
unfolding lowest
lowest_same p q zero h = refl
lowest_same p q (suc n) h =
    ap₂ (λ (b : Bool) (k : ℕ). cond b zero (suc k)) (h 0 (omega arith)) (lowest_same (λ k. p (suc k)) (λ k. q (suc k)) n (λ k l. h (suc k) (omega arith)))

pub members_same : (p q : ℕ → Bool) (n : ℕ) → ((k : ℕ) → k < n → p (suc k) ≡ q (suc k)) → lowest_member p n ≡ lowest_member q n
unfolding lowest_member
members_same p q n h = ap (λ (k : ℕ). place_if (ltb k n) (suc k)) (lowest_same (λ k. p (suc k)) (λ k. q (suc k)) n h)
