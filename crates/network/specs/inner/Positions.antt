-- What stands at the positions of a feeder's walk.
use Rattle.std.specs.Prelude.{◌≡◌, List, ℕ, ◌≤◌, ◌<◌, get_or, pos, nat_abs}
use Rattle.numbers.specs.inner.Held.{member, units}
use Rattle.network.specs.declared.Position.{Position}

-- what stands past the end
abbrev pub no_position : Position
no_position = record { member = member 0; parent = 0; toward = units (pos 0); away = units (pos 0) }

abbrev pub position_at : List Position → ℕ → Position
position_at ps i = get_or ps i no_position

-- how many units its link carries toward member 1, and away from it
abbrev pub toward_of : Position → ℕ
toward_of p = nat_abs p.toward.0

abbrev pub away_of : Position → ℕ
away_of p = nat_abs p.away.0

-- 1 to 32 members, each at one position and reached from an earlier one, whose links carry 0 to 40 units each way
pub record Sound (members : ℕ) (ps : List Position) : Type 0 where
  pub some : 1 ≤ members
  pub few : members ≤ 32
  pub known : (i : ℕ) → i < members → (1 ≤ (position_at ps i).member.0) × ((position_at ps i).member.0 ≤ members)
  pub apart : (i k : ℕ) → i < members → k < members → (position_at ps i).member.0 ≡ (position_at ps k).member.0 → i ≡ k
  pub rising : (i : ℕ) → 1 ≤ i → (position_at ps i).parent < i
  pub first : (toward_of (position_at ps 0) ≡ 0) × (away_of (position_at ps 0) ≡ 0)
  pub toward : (i : ℕ) → ((position_at ps i).toward.0 ≡ pos (toward_of (position_at ps i))) × (toward_of (position_at ps i) ≤ 40)
  pub away : (i : ℕ) → ((position_at ps i).away.0 ≡ pos (away_of (position_at ps i))) × (away_of (position_at ps i) ≤ 40)
