-- docs/RULES.md, "Refusals": what a refusal is, and refusals 1 to 4, 13 and 14.
use Rattle.std.specs.Prelude.{Bool, true, false, not, List, [], ◌∷◌, ℕ, suc, ◌%◌, ltb, eqb, length}
use Rattle.std.proofs.Math.Option.{Option, none, some}
use Rattle.records.specs.Records.{Entry, entries}
use Rattle.records.specs.Records.Entry.{link, offer, begins, fault}

pub record Refusal : Type 0 where
  pub number : ℕ
  pub place : ℕ

-- refusal k at its place, if there is one
unfoldable pub refusal : ℕ → Option ℕ → Option Refusal
refusal k none = none
refusal k (some p) = some (record { number = k; place = p })

-- the first that applies
infixr 20 ◌otherwise◌
unfoldable pub ◌otherwise◌ : Option Refusal → Option Refusal → Option Refusal
none otherwise g = g
(some f) otherwise g = some f

-- the place p, where the test says so
unfoldable pub place_if : Bool → ℕ → Option ℕ
place_if false p = none
place_if true p = some p

-- the most bytes that a file has: 4,127 records
abbrev pub file_limit : ℕ
file_limit = 33016

-- 1: more bytes than that
unfoldable pub too_long : List ℕ → Option ℕ
too_long f = place_if (ltb file_limit (length f)) 0

-- 2: length not a multiple of 8
unfoldable pub not_whole : List ℕ → Option ℕ
not_whole f = place_if (not (eqb (length f % 8) 0)) 0

-- 3, 4, 13 and 14: the first faulty record decides; the first of the records given has the place i
unfoldable pub faulty : ℕ → List Entry → Option Refusal
faulty i [] = none
faulty i (link l ∷ es) = faulty (suc i) es
faulty i (offer o ∷ es) = faulty (suc i) es
faulty i (begins j ∷ es) = faulty (suc i) es
faulty i (fault k ∷ es) = some (record { number = k; place = i })

-- refusals 1 to 4, 13 and 14
unfoldable pub unsound : List ℕ → Option Refusal
unsound f = refusal 1 (too_long f) otherwise refusal 2 (not_whole f) otherwise faulty 0 (entries f)
