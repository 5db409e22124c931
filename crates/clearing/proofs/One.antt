-- No two results are allowed for one input, and the nets of an answer add to zero. Assumes nothing.
use mathlib.Core.Path.{◌≡◌, refl, sym, ap, ap₂, ◌∙◌}
use mathlib.Core.List.{List, ◌++◌}
use mathlib.Core.Option.{none, none-ne-some, some-injective}
use Prim.Native.Nat.{ℕ, ◌*◌}
use lib.ListN.{length, drop}
use lib.IntN.{ℤ, pos}
use Rattle.problem.specs.Problem.{Market}
use Rattle.problem.proofs.Upward.{best_one}
use Rattle.problem.proofs.Nets.{nets, nets_zero}
use Rattle.problem.proofs.Tree.{Tree}
use Rattle.records.specs.Market.{market_of}
use Rattle.records.specs.Answer.{answer_of}
use Rattle.records.proofs.Entries.{both_none}
use Rattle.market.specs.Refusals.{file_refusal}
use Rattle.market.proofs.Sound.{sound_tree}
use Rattle.clearing.specs.Outcome.{code, Outcome}
use Rattle.clearing.specs.Outcome.Outcome.{nothing, cleared}
use Rattle.clearing.specs.Promise.{refusal_of, Result}
use Rattle.clearing.specs.Promise.Result.{refused, settled}

-- where nothing is refused up to 11, nothing is up to 10
file_passes : (file : List ℕ) (room : ℕ) → refusal_of file room ≡ none → file_refusal file ≡ none
unfolding refusal_of
file_passes file room e = (both_none (file_refusal file) _ e).0

-- the market of a file that passes refusals 1 to 11, 13 and 14 is on a tree
pub tree_if : (file : List ℕ) (room : ℕ) → refusal_of file room ≡ none → Tree (market_of file)
tree_if file room e = sound_tree file (file_passes file room e)

-- a market on a tree has one outcome
pub one_outcome : {m : Market} {before : List ℕ} {r r' : ℕ} {a a' : List ℕ} → Tree m → Outcome m before r a → Outcome m before r' a' → (r ≡ r') × (a ≡ a')
one_outcome R (nothing h) (nothing k) = (refl, refl)
one_outcome R (nothing h) (cleared ys t k) = absurd (h ys t k.possible)
one_outcome R (cleared ys t h) (nothing k) = absurd (k ys t h.possible)
one_outcome {m} {before} R (cleared ys t h) (cleared zs u k) =
    let b = best_one m R h k in
    (refl, ap₂ (λ (y : List ℤ) (x : ℤ). answer_of m y x ++ drop (16 * m.members) before) b.0 b.1)

-- no two results are allowed for one input
pub only_one : {file before : List ℕ} {r r' : ℕ} {a a' : List ℕ} → Result file before r a → Result file before r' a' → (r ≡ r') × (a ≡ a')
only_one (refused f e) (refused g k) = (ap code (some-injective _ _ (sym e ∙ k)), refl)
only_one (refused f e) (settled k o) = absurd (none-ne-some _ (sym k ∙ e))
only_one (settled e o) (refused g k) = absurd (none-ne-some _ (sym e ∙ k))
only_one {file} {before} (settled e o) (settled k p) = one_outcome (tree_if file (length before) e) o p

-- the nets of a market that is not refused add to zero, whatever the flows
pub nets_none : (file : List ℕ) (room : ℕ) → refusal_of file room ≡ none → (ys : List ℤ) → nets (market_of file).links ys (market_of file).members ≡ pos 0
nets_none file room e ys = nets_zero (market_of file).members (market_of file).links ys (tree_if file room e).within
