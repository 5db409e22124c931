-- Counts of units: small sums and differences fit 16 bits. Assumes nothing.
use mathlib.Core.Path.{◌≡◌}
use Prim.Native.Nat.{ℕ, ◌+◌, ◌<◌}
use native.Mathlib.Omega.{arith}
use lib.IntN.{ℤ, pos, ◌+ℤ◌, ◌-ℤ◌}
use Rattle.std.specs.Int.{w16}
use Rattle.std.proofs.Common.{SFits}
use Rattle.std.proofs.lemmas.Int.{ints}

module _ {a b : ℕ} (y z : ℤ) (e : y ≡ pos a) (g : z ≡ pos b) where
  pub plus_fits : a + b < 32768 → SFits w16 (y +ℤ z)
  plus_fits l = grind (arith, ints)

  pub less_fits : a < 10000 → b < 10000 → SFits w16 (y -ℤ z)
  less_fits l m = grind (arith, ints)
