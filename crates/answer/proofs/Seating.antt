-- The position of each member, put down one position after the other. Assumes nothing.
use mathlib.Core.Path.{◌≡◌, ◌∙◌}
use mathlib.Core.Logic.{◌⊎◌, inl, inr}
use mathlib.Core.Bool.{true, false}
use mathlib.Core.List.{List}
use Prim.Native.Nat.{ℕ, ◌+◌, ◌-◌, ◌≤◌, ◌<◌}
use native.Mathlib.Omega.{arith}
use lib.Dec.{eqb}
use lib.ListN.{length, get_or, set, replicate, length-set, length-replicate}
use Rattle.problem.proofs.Count.{same?}
use Rattle.network.proofs.Near.{blank_none}
use Rattle.network.specs.declared.Feeder.{Feeder}
use Rattle.network.specs.inner.Feeders.{member_at}
use Rattle.network.specs.inner.Positions.{Sound}
use Rattle.std.proofs.lemmas.Grind.{common_steps}
use Rattle.answer.specs.inner.Words.{position_in, Positioned}

-- the positions below i have been put down
pub record Seating (f : Feeder) (position : List ℕ) (i : ℕ) : Type 0 where
  pub long : length position ≡ 32
  pub at : (k : ℕ) → k < i → position_in position (member_at f k) ≡ k
  pub inside : (j : ℕ) → get_or position j 0 < f.members

module _ (f : Feeder) where
  abbrev s : Sound f.members f.position
  s = f.sound

  pub seating_none : Seating f (replicate 32 0) 0
  seating_none = record {
    long = length-replicate {A = ℕ} 32 0;
    at = λ k l. absurd (omega arith);
    inside = λ j. omega (arith, blank_none {A = ℕ} 0 32 0 j (omega arith), s.some);
  }

  pub seating_more : {position : List ℕ} {i j : ℕ} → Seating f position i → i < f.members → j ≡ member_at f i - 1 → Seating f (set position j i) (i + 1)
  seating_more {position} {i} {j} p l is = record {
    long = length-set position j i ∙ p.long;
    at = λ k lk. at_place k lk (same? k i);
    inside = λ k. grind (arith, common_steps, is, p.long, p.inside k, s.few, s.known i);
  }
    where
      at_place : (k : ℕ) → k < i + 1 → ((k ≡ i) × (eqb k i ≡ true)) ⊎ ((k ≡ i → ⊥) × (eqb k i ≡ false)) → position_in (set position j i) (member_at f k) ≡ k
      at_place k lk (inl h) = grind (arith, common_steps, h.0, is, p.long, s.few, s.known i l)
      at_place k lk (inr h) = grind (arith, common_steps, h.0, is, p.at k, s.known i l, s.known k, s.apart k i)

pub seated : {f : Feeder} {position : List ℕ} {i : ℕ} → f.members ≤ i → Seating f position i → Positioned f position
seated l p = record { at = λ k lk. p.at k (omega arith); inside = p.inside }
