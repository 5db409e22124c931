-- 32 bits times 16, and 32 bits more, fit 64.
use Rattle.std.proofs.Common.{rules, SFits, ◌≡◌, ℤ, ◌+ℤ◌, ◌*ℤ◌, to_z, of_z, refl}
use Rattle.std.specs.Int.{w16, w32, w64}
use mir.Facts.{to_z-of_z, sfits_widen}
use Rattle.numbers.proofs.Times.{product_fits, line_fits}
use Rattle.numbers.proofs.Slope.amount.Goals as goal

-- a number as it is read in 64 bits
abbrev as_64 : ℤ → ℤ
as_64 z = to_z w64 (of_z w64 z)

line : {a x b : ℤ} → SFits w32 a → SFits w16 x → SFits w32 b → as_64 (as_64 (as_64 a *ℤ as_64 x) +ℤ as_64 b) ≡ (a *ℤ x) +ℤ b
line f g h =
    rw (to_z-of_z (sfits_widen {w' = w64} tt f), to_z-of_z (sfits_widen {w' = w64} tt g), to_z-of_z (sfits_widen {w' = w64} tt h), to_z-of_z (product_fits f g), to_z-of_z (line_fits f g h))
    refl

pub returns : goal.returns
returns c =
    let a : SFits w32 c.args.self.0 = search rules in
    let x : SFits w16 c.args.units.0 = search rules in
    let b : SFits w32 c.args.base.0 = search rules in
    rw (c.number.ensures, c.number-2.ensures, c.number-3.ensures) (line a x b)
