-- Loads of flows within their capacities: 9999 marks a link of capacity 0, and no other load exceeds 1,000. Assumes nothing.
use mathlib.Core.Path.{◌≡◌}
use Prim.Native.Nat.{◌*◌, ◌≤◌}
use native.Mathlib.Nat.{le_trans, div-mul-le_self, mul-le-mul_left, le_of_mul-le-mul_right}
use native.Mathlib.Omega.{arith}
use lib.IntN.{ℤ, nat_abs}
use borrow.Author.Tests.{eq-eqb, ne_eqb}
use Rattle.problem.specs.Problem.{Link, load}

pub load_mark : (l : Link) (y : ℤ) → l.capacity ≡ 0 → load l y ≡ 9999
unfolding load
load_mark l y e = rw (eq-eqb l.capacity 0 e)

pub load_most : (l : Link) (y : ℤ) → nat_abs y ≤ l.capacity → (l.capacity ≡ 0 → ⊥) → load l y ≤ 1000
unfolding load
load_most l y h n =
    rw (ne_eqb l.capacity 0 n)
    (le_of_mul-le-mul_right (le_trans (div-mul-le_self (1000 * nat_abs y) l.capacity) (mul-le-mul_left 1000 h)) (omega (arith, n)))
