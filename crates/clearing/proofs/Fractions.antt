-- Would fractions have paid more? Not for any file that is cleared, nor for any that gets refusal 12: said through the promise, for
-- whatever number is returned and whatever then stands in the answer area. Assumes nothing.
use mathlib.Core.Path.{◌≡◌, refl}
use mathlib.Core.List.{List, ◌++◌}
use Prim.Native.Nat.{ℕ, ◌≤◌, ◌<◌}
use native.Mathlib.Omega.{arith}
use lib.ListN.{length, drop}
use lib.IntN.{ℤ, pos, ◌*ℤ◌}
use Rattle.problem.specs.Fractions.{ImpossibleIn, HighestIn, flows_in}
use Rattle.problem.proofs.Fractions.{fractions_highest, fractions_impossible}
use Rattle.records.specs.Market.{market_of}
use Rattle.records.specs.Answer.{answer_of}
use Rattle.records.proofs.Allowed.{unlisted}
use Rattle.market.proofs.Top.{market_few}
use Rattle.clearing.specs.Outcome.{code, no_allocation}
use Rattle.clearing.specs.Outcome.Outcome.{nothing, cleared}
use Rattle.clearing.specs.Promise.{Result}
use Rattle.clearing.specs.Promise.Result.{refused, settled}
use Rattle.clearing.proofs.Allowed.{refused_allowed}
use Rattle.clearing.proofs.One.{tree_if}

-- Of a file that is cleared, into an answer with the flows ys and the total t: in d-ths those flows are possible with d times that total,
-- and no possible allocation in d-ths totals more.
pub cleared_no_more : {file before after : List ℕ} {k : ℕ} → Result file before k after → k < 65536
    → (ys : List ℤ) × (t : ℤ) × (after ≡ answer_of (market_of file) ys t ++ drop k before)
    × ((d : ℕ) → 1 ≤ d → HighestIn d (market_of file) (flows_in d ys) (pos d *ℤ t))
unfolding code
cleared_no_more {file} {before} (refused r e) l = absurd (unlisted 0 refl (refused_allowed file (length before) r e) (omega (arith, l)))
cleared_no_more (settled e (nothing h)) l = absurd (omega (arith, l))
cleared_no_more {file} {before} (settled e (cleared ys t h)) l =
    (ys, t, refl, λ d from-1. fractions_highest (market_of file) (tree_if file (length before) e) d from-1 ys t h)

-- Of a file that gets refusal 12: no allocation in d-ths is possible either.
pub refused_impossible : {file before after : List ℕ} {k : ℕ} → Result file before k after → k ≡ code no_allocation
    → (d : ℕ) → 1 ≤ d → ImpossibleIn d (market_of file)
unfolding code
refused_impossible {file} {before} (refused r e) q d from-1 =
    let t = refused_allowed file (length before) r e in
    absurd (unlisted 12 refl t (omega (arith, t.place, q)))
refused_impossible {file} {before} (settled e (nothing h)) q d from-1 = fractions_impossible (market_of file) (tree_if file (length before) e) d from-1 h
refused_impossible {file} (settled e (cleared ys t h)) q d from-1 = absurd (omega (arith, market_few file, q))
