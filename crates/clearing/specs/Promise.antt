-- The promise of the entry: docs/RULES.md, "The number returned" and "Refusals".
use Rattle.std.specs.Prelude.{◌≡◌, List, ℕ, ◌*◌, ltb, length}
use Rattle.std.proofs.Math.Option.{Option, none, some}
use Rattle.problem.specs.Problem.{Market}
use Rattle.records.specs.Refusals.{Refusal, refusal, ◌otherwise◌, place_if}
use Rattle.records.specs.Market.{market_of}
use Rattle.market.specs.Refusals.{file_refusal}
use Rattle.clearing.specs.Outcome.{code, Outcome}

-- 11: answer area shorter than 16n
unfoldable pub too_short : Market → ℕ → Option ℕ
too_short m room = place_if (ltb room (16 * m.members)) (16 * m.members)

-- refusals 1 to 11, 13 and 14, the answer area having `room` bytes
unfoldable pub refusal_of : List ℕ → ℕ → Option Refusal
refusal_of file room = file_refusal file otherwise refusal 11 (too_short (market_of file) room)

-- the file, the answer area before; the number returned, the answer area after
pub data Result (file before : List ℕ) : ℕ → List ℕ → Type 0 where
  refused : (r : Refusal) → refusal_of file (length before) ≡ some r → Result file before (code r) before
  settled : {k : ℕ} {after : List ℕ} → refusal_of file (length before) ≡ none → Outcome (market_of file) before k after → Result file before k after
