-- A refusal of a file or an answer area is one that the table allows them; and refusal 8 is never given: whatever the file and the area,
-- no number that is returned is its code. Assumes nothing.
use mathlib.Core.Path.{◌≡◌, refl}
use mathlib.Core.List.{List}
use Prim.Native.Nat.{ℕ, ◌<◌}
use native.Mathlib.Omega.{arith}
use lib.ListN.{length}
use Rattle.records.proofs.Allowed.{IfAllowed, unlisted, placed_if, refusal_allowed, first_allowed}
use Rattle.market.proofs.Top.{market_few}
use Rattle.market.proofs.Allowed.{file_allowed}
use Rattle.clearing.specs.Outcome.{code}
use Rattle.clearing.specs.Outcome.Outcome.{nothing, cleared}
use Rattle.clearing.specs.Promise.{too_short, refusal_of, Result}
use Rattle.clearing.specs.Promise.Result.{refused, settled}

-- refusals 1 to 11, 13 and 14
pub refused_allowed : (file : List ℕ) (room : ℕ) → IfAllowed (refusal_of file room)
unfolding refusal_of too_short
refused_allowed file room =
    first_allowed _ _ (file_allowed file) (λ e. refusal_allowed _ _ refl (placed_if _ _ (λ t. omega (arith, market_few file))))

-- the number returned is not a code of refusal 8, at any place; a place has 16 bits
pub never_8 : {file before after : List ℕ} {k : ℕ} → Result file before k after → (p : ℕ) → p < 65536 → k ≡ code (record { number = 8; place = p }) → ⊥
unfolding code
never_8 {file} {before} (refused r e) p l q =
    let t = refused_allowed file (length before) r e in
    unlisted 8 refl t (omega (arith, t.place, l, q))
never_8 (settled e (nothing h)) p l q = omega (arith, l, q)
never_8 {file} (settled e (cleared ys t h)) p l q = omega (arith, market_few file, l, q)
