-- A flow is as large from either end, and its opposite fits 16 bits. Assumes nothing.
use mathlib.Core.Path.{◌≡◌, refl}
use mathlib.Core.Bool.{Bool, true, false}
use Prim.Native.Nat.{zero, suc, ◌≤◌}
use native.Mathlib.Omega.{arith}
use lib.IntN.{ℤ, pos, negsuc, neg_ℤ, nat_abs, ◌-ℤ◌}
use Rattle.std.specs.Int.{w16}
use Rattle.std.proofs.Common.{SFits}
use Rattle.std.proofs.lemmas.Int.{ints}
use Rattle.answer.specs.inner.Records.{from_lower}

pub turned : (z : ℤ) → pos 0 -ℤ z ≡ neg_ℤ z
turned z = grind (arith, ints)

pub opposite_fits : (z : ℤ) → nat_abs z ≤ 40 → SFits w16 (pos 0 -ℤ z)
opposite_fits z h = grind (arith, ints)

pub size_from_lower : (lower : Bool) (z : ℤ) → nat_abs (from_lower lower z) ≡ nat_abs z
unfolding from_lower
size_from_lower true z = refl
size_from_lower false (pos zero) = refl
size_from_lower false (pos (suc n)) = refl
size_from_lower false (negsuc n) = refl
