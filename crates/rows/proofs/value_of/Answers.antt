-- `value_of` meets its contract: a cell that is 0 is of no price, and any other gives its price back. Assumes nothing.
use mathlib.Core.Path.{sym, ap, ◌∙◌}
use Prim.Native.Nat.{ℕ, ◌-◌}
use native.Mathlib.Omega.{arith}
use lib.IntN.{pos, ◌-ℤ◌}
use Rattle.rows.proofs.Prices.{none_back, price_back}
use Rattle.rows.proofs.Gives.{value_limited, cell_bound}
use Rattle.rows.proofs.value_of.Goals as goal

pub returns-in-0 : goal.returns-in-0
returns-in-0 c = none_back 1000000 _ (sym c.cell_at.ensures ∙ c.in-0.is)

pub total_of-requires : goal.total_of-requires
total_of-requires c = let a = c.args in (omega arith, omega (arith, cell_bound a.j.0 a.x.0 a.records.now))

pub returns-in_default : goal.returns-in_default
returns-in_default c =
    let a = c.args in
    price_back 1000000 _ c.total_of.result (value_limited a.records.now a.j.0 a.x.0) (omega (arith, c.in_default))
    (c.total_of.ensures ∙ ap (λ (k : ℕ). pos (k - 1) -ℤ pos 1000000) c.cell_at.ensures)
