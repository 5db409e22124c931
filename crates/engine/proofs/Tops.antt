-- The most units that a member can buy, added up position by position. Assumes nothing.
use mathlib.Core.Path.{◌≡◌, refl, sym, ◌∙◌}
use mathlib.Core.Bool.{Bool, true, false}
use Prim.Native.Nat.{ℕ, zero, suc, ◌+◌, ◌-◌, ◌*◌, ◌≤◌}
use native.Mathlib.Nat.{add-zero}
use native.Mathlib.Numerals.{add-one}
use native.Mathlib.Omega.{arith}
use lib.Dec.{eqb}
use borrow.Author.Tests.{eq-eqb, ne_eqb}
use Rattle.problem.proofs.Max.{pick}
use Rattle.problem.proofs.Perm.{fold}
use Rattle.problem.proofs.Transfer.{around, behind}
use Rattle.network.specs.declared.Feeder.{Feeder}
use Rattle.network.specs.inner.Positions.{Sound}
use Rattle.network.specs.inner.Feeders.{parent_at, toward_at, away_at}
use Rattle.engine.specs.inner.Words.{top_of}

-- the positions below i added up
unfoldable pub top_to : Feeder → ℕ → ℕ → ℕ
top_to f v i = around (λ i. parent_at f i) (λ i. toward_at f i) (λ i. away_at f i) (i - 1) v

module _ (f : Feeder) (v : ℕ) where
  abbrev s : Sound f.members f.position
  s = f.sound

  pub top_start : top_to f v 1 ≡ away_at f v
  unfolding top_to around fold
  top_start = add-zero (behind (λ d. away_at f (suc d)) v) ∙ go v
    where
      go : (v : ℕ) → behind (λ d. away_at f (suc d)) v ≡ away_at f v
      go zero = sym s.first.1
      go (suc v) = refl

  top_next : (i : ℕ) → top_to f v (suc (suc i)) ≡ top_to f v (suc i) + pick (eqb v (parent_at f (suc i))) (toward_at f (suc i)) 0
  unfolding top_to around fold
  top_next i =
      let e : suc (suc i) - 1 ≡ suc i = omega arith in
      let e' : suc i - 1 ≡ i = omega arith in
      rw (e, e') (omega arith)

  pub top_kid : (i : ℕ) → 1 ≤ i → parent_at f i ≡ v → top_to f v (i + 1) ≡ top_to f v i + toward_at f i
  top_kid zero h e = absurd (omega arith)
  top_kid (suc i) h e = rw (add-one (suc i), top_next i, eq-eqb v (parent_at f (suc i)) (sym e))

  pub top_not : (i : ℕ) → 1 ≤ i → (parent_at f i ≡ v → ⊥) → top_to f v (i + 1) ≡ top_to f v i
  top_not zero h o = absurd (omega arith)
  top_not (suc i) h o = rw (add-one (suc i), top_next i, ne_eqb v (parent_at f (suc i)) (λ e. o (sym e))) (add-zero _)

  pub link_few : (i : ℕ) → (toward_at f i ≤ 40) × (away_at f i ≤ 40)
  link_few i = ((s.toward i).1, (s.away i).1)

  pub top_most : (i : ℕ) → 1 ≤ i → top_to f v i ≤ 40 * i
  top_most zero h = absurd (omega arith)
  top_most (suc zero) h = omega (arith, top_start, (link_few v).1)
  top_most (suc (suc i)) h = omega (arith, top_next i, one (eqb v (parent_at f (suc i))), top_most (suc i) (omega arith))
    where
      one : (t : Bool) → pick t (toward_at f (suc i)) 0 ≤ 40
      one true = (link_few (suc i)).0
      one false = omega arith

  pub top_end : (i : ℕ) → 1 ≤ i → i ≡ f.members → top_to f v i ≡ top_of f v
  unfolding top_to top_of
  top_end i h e = rw e refl

  pub top_few : top_of f v ≤ 1280
  top_few = omega (arith, top_end f.members s.some refl, top_most f.members s.some, s.few)
