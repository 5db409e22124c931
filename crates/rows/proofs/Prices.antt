-- A price as a cell: cells keep the order of prices, and a cell that is not none gives its price back. Assumes nothing.
use mathlib.Core.Path.{◌≡◌, refl, ap}
use mathlib.Core.Option.{Option, none, some}
use Prim.Native.Nat.{ℕ, suc, ◌+◌, ◌-◌, ◌≤◌, max}
use native.Mathlib.Omega.{arith}
use Rattle.std.proofs.lemmas.Int.{ints}
use lib.IntN.{ℤ, pos, neg_ℤ, ◌+ℤ◌, ◌-ℤ◌}
use lib.Signed.{◌≤ℤ◌}
use Rattle.std.specs.Prelude.{Some, None}
use Rattle.numbers.specs.declared.Price.{Price}
use Rattle.numbers.specs.inner.Held.{price}
use Rattle.problem.specs.Problem.{higher}
use Rattle.problem.proofs.Choices.{apart}
use Rattle.problem.proofs.Prices.{cell_of, Limited}
use Rattle.rows.specs.inner.Rows.{worth_of}

-- ---- cells keep the order of prices
pub cell_higher : (B : ℕ) (u v : Option ℤ) → cell_of B (higher u v) ≡ max (cell_of B u) (cell_of B v)
unfolding cell_of higher
cell_higher B none v = omega arith
cell_higher B (some p) none = omega arith
cell_higher B (some p) (some q) = grind (arith, ints)

-- ---- the cell of a price in range
pub cell_is : (B : ℕ) (p : ℤ) → neg_ℤ (pos B) ≤ℤ p → p +ℤ pos (suc B) ≡ pos (cell_of B (some p))
unfolding cell_of
cell_is B p l = omega (arith, ints, apart)

pub cell_top : (B : ℕ) (v : Option ℤ) → Limited B v → cell_of B v ≤ suc (B + B)
unfolding cell_of
cell_top B none h = omega arith
cell_top B (some p) h = omega (arith, ints, apart)

-- ---- from a cell back to its price
pub none_back : (B : ℕ) (v : Option ℤ) → cell_of B v ≡ 0 → None ≡ worth_of v
unfolding cell_of
none_back B none e = refl
none_back B (some p) e = absurd (omega arith)

pub price_back : (B : ℕ) (v : Option ℤ) (q : Price) → Limited B v → 1 ≤ cell_of B v → q.0 ≡ pos (cell_of B v - 1) -ℤ pos B → Some q ≡ worth_of v
unfolding cell_of
price_back B none q l h e = absurd (omega arith)
price_back B (some p) q l h e =
    ap (λ (z : ℤ). Some (price z)) (omega (arith, ints, apart))
