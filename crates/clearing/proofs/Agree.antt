-- Elimination over n positions reads no row past them. Assumes nothing.
use mathlib.Core.Path.{◌≡◌, refl, ap, ap₂, ◌∙◌}
use mathlib.Core.List.{List, [], ◌∷◌}
use Prim.Native.Nat.{ℕ, zero, suc, ◌+◌, ◌-◌, ◌≤◌, ◌<◌}
use native.Mathlib.Omega.{arith}
use lib.Dec.{eqb}
use Rattle.problem.proofs.Cell.{◌⊕◌}
use Rattle.problem.proofs.Max.{pick, argmax, max_to_ext, argmax_ext}
use Rattle.problem.proofs.Form.{Walk, step, run, offer, picks}
use Rattle.problem.proofs.Closed.{indices}

module _ (p w : ℕ → ℕ) (g : ℕ → ℕ → ℕ) (r s : ℕ → ℕ → ℕ) (n : ℕ) (up : (i : ℕ) → 1 ≤ i → p i < i) (same : (j x : ℕ) → j < n → r j x ≡ s j x) where
  abbrev over : (ℕ → ℕ → ℕ) → Walk
  over rows = record { par = p; wide = w; gain = g; row = rows }

  module _ (m : ℕ) (deeper : (i j x : ℕ) → 1 ≤ i → i + m ≤ n → j < n → run (over r) m i j x ≡ run (over s) m i j x) where
    offer_same : (i y q : ℕ) → 1 ≤ i → i + suc m ≤ n → offer (over r) m i y q ≡ offer (over s) m i y q
    unfolding offer
    offer_same i y q h l =
        ap₂ (λ (a b : ℕ). g i q ⊕ (a ⊕ b)) (deeper (suc i) i q (omega arith) (omega arith) (omega arith))
        (deeper (suc i) (p i) (y + (w i - q)) (omega arith) (omega arith) (omega (arith, up i h)))

  pub run_same : (m i j x : ℕ) → 1 ≤ i → i + m ≤ n → j < n → run (over r) m i j x ≡ run (over s) m i j x
  unfolding run offer
  run_same zero i j x h l d = same j x d
  run_same (suc m) i j x h l d =
      ap₂ (pick (eqb j (p i))) (max_to_ext (offer (over r) m i x) (offer (over s) m i x) (w i) (λ q lq. offer_same m (run_same m) i x q h l))
      (run_same m (suc i) j x (omega arith) (omega arith) d)

  pub picks_same : (m i : ℕ) (x : ℕ → ℕ) → 1 ≤ i → i + m ≤ n → picks (over r) m i x ≡ picks (over s) m i x
  unfolding picks step
  picks_same zero i x h l = refl
  picks_same (suc m) i x h l =
      let q : ℕ = argmax (offer (over s) m i (x (p i))) (w i) in
      let e : argmax (offer (over r) m i (x (p i))) (w i) ≡ q = argmax_ext (offer (over r) m i (x (p i))) (offer (over s) m i (x (p i))) (w i) (λ t lt. offer_same m (run_same m) i (x (p i)) t h l) in
      ap (λ (t : ℕ). t ∷ picks (over r) m (suc i) (step (over r) x i t)) e
      ∙ ap (λ (ps : List ℕ). q ∷ ps) (picks_same m (suc i) (step (over s) x i q) (omega arith) (omega arith))

  pub indices_same : (i : ℕ) (x : ℕ → ℕ) (ps : List ℕ) → indices (over r) i x ps ≡ indices (over s) i x ps
  unfolding indices step
  indices_same i x [] = refl
  indices_same i x (q ∷ ps) = indices_same (suc i) (step (over r) x i q) ps
