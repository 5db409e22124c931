-- Sets of members as the binary digits of a number: digit k stands for the member of index k.
use Rattle.std.specs.Prelude.{◌≡◌, Bool, List, ℕ, ◌-◌, ◌≤◌, ◌<◌, eqb, get_or}
use Rattle.std.specs.Int.{bit_at}
use Rattle.numbers.specs.declared.Member.{Member}
use Rattle.network.specs.declared.bits.Members.{Members}

-- one of the members from 1 to 32, which are those that a set can have
abbrev pub Numbered : Member → Type 0
Numbered v = (1 ≤ v.0) × (v.0 ≤ 32)

-- its index
abbrev pub index : Member → ℕ
index v = v.0 - 1

-- the member of index k is in the set x
unfoldable pub holds : ℕ → ℕ → Bool
holds x k = eqb (bit_at x k) 1

-- the set at a place of an array
abbrev pub set_in : List Members → ℕ → ℕ
set_in ms i = (get_or ms i (record { 0 = 0 })).0

-- r is the lowest of 0 .. n-1 that is not in x, or n where all are
pub record Lowest (x n r : ℕ) : Type 0 where
  pub within : r ≤ n
  pub held : (k : ℕ) → k < r → bit_at x k ≡ 1
  pub missing : r < n → bit_at x r ≡ 0
