-- The shape of a sound feeder's walk, and how long its rows are. Assumes nothing.
use mathlib.Core.Path.{◌≡◌, refl, sym, subst}
use Prim.Native.Nat.{ℕ, zero, suc, ◌+◌, ◌-◌, ◌*◌, ◌<◌, ◌≤◌}
use native.Mathlib.Nat.{not-suc-le-zero}
use native.Mathlib.Numerals.{add-one}
use native.Mathlib.Omega.{arith}
use Rattle.problem.proofs.Form.{Walk, Rising}
use Rattle.problem.proofs.Reach.{reach, reach_par, reach_other, reach_own}
use Rattle.problem.proofs.Table.{reach_most}
use Rattle.network.specs.declared.Feeder.{Feeder}
use Rattle.network.specs.inner.Feeders.{parent_at, toward_at, away_at}
use Rattle.engine.specs.inner.Words.{walk_of}

pub record Shape (k : Walk) (n : ℕ) : Type 0 where
  pub some : 1 ≤ n
  pub few : n ≤ 32
  pub rising : Rising k
  pub root : k.wide 0 ≡ 0
  pub narrow : (i : ℕ) → k.wide i ≤ 80
  pub free : (i p : ℕ) → k.gain i p ≡ 1

pub shape : (f : Feeder) (own : ℕ → ℕ → ℕ) → Shape (walk_of f own) f.members
shape f own =
    let s = f.sound in
    record {
      some = s.some;
      few = s.few;
      rising = s.rising;
      root = omega (arith, s.first.0, s.first.1);
      narrow = λ i. omega (arith, (s.toward i).1, (s.away i).1);
      free = λ i p. refl;
    }

module _ (k : Walk) (n : ℕ) (s : Shape k n) where
  pub far : (i v : ℕ) → v < i → reach k i v ≤ 80 * (i - 1)
  far zero v l = absurd (not-suc-le-zero l)
  far (suc i) v l =
      let e : suc i - 1 ≡ i = omega arith in
      rw e (reach_most k s.rising 80 s.root s.narrow i v l)

  pub reach_first : (v : ℕ) → reach k (v + 1) v ≡ k.wide v
  reach_first v = reach_own k s.rising (v + 1) v (omega arith)

  pub reach_kid : (i v : ℕ) → 1 ≤ i → k.par i ≡ v → reach k (i + 1) v ≡ reach k i v + k.wide i
  reach_kid i v h e = rw (add-one i) (subst (λ (t : ℕ). reach k (suc i) t ≡ reach k i t + k.wide i) e (reach_par k s.rising i h))

  pub reach_not : (i v : ℕ) → 1 ≤ i → (k.par i ≡ v → ⊥) → reach k (i + 1) v ≡ reach k i v
  reach_not i v h o = rw (add-one i) (reach_other k s.rising i v h (λ e. o (sym e)))

-- ---- the same of a feeder's walk, with any own rows
module _ (f : Feeder) (own : ℕ → ℕ → ℕ) where
  pub row_first : (v : ℕ) → reach (walk_of f own) (v + 1) v ≡ toward_at f v + away_at f v
  row_first v = reach_first (walk_of f own) _ (shape f own) v

  pub row_kid : (i v : ℕ) → 1 ≤ i → parent_at f i ≡ v → reach (walk_of f own) (i + 1) v ≡ reach (walk_of f own) i v + (toward_at f i + away_at f i)
  row_kid i v h e = reach_kid (walk_of f own) _ (shape f own) i v h e

  pub row_not : (i v : ℕ) → 1 ≤ i → (parent_at f i ≡ v → ⊥) → reach (walk_of f own) (i + 1) v ≡ reach (walk_of f own) i v
  row_not i v h o = reach_not (walk_of f own) _ (shape f own) i v h o

pub width_few : (f : Feeder) (i : ℕ) → toward_at f i + away_at f i ≤ 80
width_few f i = omega (arith, (f.sound.toward i).1, (f.sound.away i).1)

-- the first position has no link
pub width_near : (f : Feeder) (i : ℕ) → toward_at f i + away_at f i ≤ 80 * i
width_near f zero = omega (arith, f.sound.first.0, f.sound.first.1)
width_near f (suc i) = omega (arith, width_few f (suc i))
