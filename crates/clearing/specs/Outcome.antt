-- What becomes of a market, whatever holds it: docs/RULES.md, "Records out", "The number returned" and refusal 12.
use Rattle.std.specs.Prelude.{List, ◌++◌, ℕ, ◌+◌, ◌*◌, drop, ℤ}
use Rattle.problem.specs.Problem.{Market, Best, Impossible}
use Rattle.records.specs.Refusals.{Refusal}
use Rattle.records.specs.Answer.{answer_of}

-- the number that a refusal returns
unfoldable pub code : Refusal → ℕ
code r = 65536 * r.number + r.place

-- 12: no possible allocation
abbrev pub no_allocation : Refusal
no_allocation = record { number = 12; place = 0 }

-- the market, the answer area before; the number returned, the answer area after
pub data Outcome (m : Market) (before : List ℕ) : ℕ → List ℕ → Type 0 where
  nothing : Impossible m → Outcome m before (code no_allocation) before
  cleared : (ys : List ℤ) (t : ℤ) → Best m ys t → Outcome m before (16 * m.members) (answer_of m ys t ++ drop (16 * m.members) before)
