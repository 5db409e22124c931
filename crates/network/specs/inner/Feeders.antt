-- A feeder read by the positions of its walk.
use Rattle.std.specs.Prelude.{ℕ}
use Rattle.network.specs.declared.Feeder.{Feeder}
use Rattle.network.specs.inner.Positions.{position_at, toward_of, away_of}

-- the member at position i, and the position that it was reached from
abbrev pub member_at : Feeder → ℕ → ℕ
member_at f i = (position_at f.position i).member.0

abbrev pub parent_at : Feeder → ℕ → ℕ
parent_at f i = (position_at f.position i).parent

-- the most that its link carries toward member 1, and away from it
abbrev pub toward_at : Feeder → ℕ → ℕ
toward_at f i = toward_of (position_at f.position i)

abbrev pub away_at : Feeder → ℕ → ℕ
away_at f i = away_of (position_at f.position i)
