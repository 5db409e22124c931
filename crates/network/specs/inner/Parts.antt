-- For each link the set of the members of its part, and what a new link between a and b does to these sets.
use Rattle.std.specs.Prelude.{◌≡◌, Bool, cond, ◌||◌, ℕ, zero, suc, ◌^◌, ◌<◌}
use Rattle.std.specs.Int.Bits.{bit_or}
use Rattle.network.specs.inner.Sets.{holds}

-- the set m holds an end
abbrev pub touches : ℕ → ℕ → ℕ → Bool
touches m a b = holds m a || holds m b

-- a, b and the members of the sets below e that hold one of them
unfoldable pub gather : (ℕ → ℕ) → ℕ → ℕ → ℕ → ℕ
gather ms a b zero = bit_or (2 ^ a) (2 ^ b)
gather ms a b (suc e) = cond (touches (ms e) a b) (bit_or (gather ms a b e) (ms e)) (gather ms a b e)

-- a set that holds an end becomes m, m is the new link's, and what stands past it stays
pub record Merged (ms ms' : ℕ → ℕ) (k a b m : ℕ) : Type 0 where
  pub old : (e : ℕ) → e < k → ms' e ≡ cond (touches (ms e) a b) m (ms e)
  pub new : ms' k ≡ m
  pub past : (e : ℕ) → k < e → ms' e ≡ ms e
