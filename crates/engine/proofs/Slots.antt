-- The places of the choices in their store: those of two positions are apart, and all lie within it. Assumes nothing.
use mathlib.Core.Path.{◌≡◌, refl}
use mathlib.Core.Logic.{inl, inr}
use Prim.Native.Nat.{ℕ, zero, suc, ◌+◌, ◌-◌, ◌*◌, ◌<◌, ◌≤◌}
use native.Mathlib.Nat.{not-suc-le-zero, mul-add, mul-suc, suc-mul, mul-one, mul-le-mul_left, eq-or-lt_of_le, le_of_suc-le-suc, mul_assoc, mul_comm}
use native.Mathlib.Omega.{arith}
use Rattle.engine.specs.inner.Words.{slot_of}

square : (u : ℕ) → u * (40 * u + 1) ≡ 40 * (u * u) + u
square u = rw (mul-add u (40 * u) 1, mul-one u, ← mul_assoc u 40 u, mul_comm u 40, mul_assoc 40 u u)

at_least : (u : ℕ) → u ≤ u * u
at_least zero = omega arith
at_least (suc u) = omega (arith, mul-suc (suc u) u)

pub slot_fits : (u : ℕ) → u ≤ 31 → (40 * u ≤ u * (40 * u + 1)) × (u * (40 * u + 1) ≤ 38471)
slot_fits u l =
    let s : u * u ≤ u * 31 = mul-le-mul_left u l in
    (omega (arith, square u, at_least u), omega (arith, square u, s))

slot_next : (u : ℕ) → slot_of (suc (suc u)) ≡ slot_of (suc u) + (80 * u + 1)
unfolding slot_of
slot_next u =
    let e : suc (suc u) - 1 ≡ suc u = omega arith in
    let e' : suc u - 1 ≡ u = omega arith in
    rw (e, e') (omega (arith, square u, square (suc u), at_least u, mul-suc (suc u) u, suc-mul u u))

-- the places of i lie before those of k
pub slot_apart : (i k : ℕ) → 1 ≤ i → i < k → slot_of i + (80 * (i - 1) + 1) ≤ slot_of k
slot_apart zero k h l = absurd (not-suc-le-zero h)
slot_apart (suc u) zero h l = absurd (not-suc-le-zero l)
slot_apart (suc u) (suc zero) h l = absurd (omega arith)
slot_apart (suc u) (suc (suc k)) h l =
    elim (eq-or-lt_of_le (le_of_suc-le-suc l)) [
      | inl e ↦ let e' : u ≡ k = omega arith in rw e' (omega (arith, slot_next k))
      | inr l' ↦ omega (arith, slot_next k, slot_apart (suc u) (suc k) h l')
    ]

end : slot_of 32 ≡ 37231
unfolding slot_of
end = refl

pub slot_end : (i : ℕ) → 1 ≤ i → i < 32 → slot_of i + (80 * (i - 1) + 1) ≤ 37231
slot_end i h l = omega (arith, slot_apart i 32 h l, end)
