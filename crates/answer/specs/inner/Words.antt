-- What the writers of the answer's records are lent. Trades stand by the positions of a feeder; `position` has the position of
-- each member, member 1's first.
use Rattle.std.specs.Prelude.{◌≡◌, List, ◌++◌, ℕ, ◌-◌, ◌≤◌, ◌<◌, length, get_or, drop, ℤ, pos, nat_abs}
use Rattle.engine.specs.inner.Words.{net_in, sent_in}
use Rattle.engine.specs.declared.Trade.{Trade}
use Rattle.problem.specs.Problem.{Market, InRange, value}
use Rattle.problem.specs.Problem as P
use Rattle.network.specs.declared.Feeder.{Feeder}
use Rattle.network.specs.inner.Feeders.{member_at, parent_at, toward_at}
use Rattle.network.specs.inner.Laid.{Laid}
use Rattle.records.specs.Records.{entries}
use Rattle.records.specs.Market.{offers_of}
use Rattle.records.specs.Answer.{each}

-- the nets and the flows ys of the market m, whose feeder is f and whose tables stand in the records `records`
pub record Settles (m : Market) (ys : List ℤ) (records : List ℕ) (f : Feeder) (trades : List Trade) : Type 0 where
  pub laid : Laid m f
  pub tables : m.offers ≡ offers_of (entries records)
  pub within : InRange m.links ys
  pub nets : (i : ℕ) → i < f.members → net_in trades i ≡ P.net (member_at f i) m.links ys
  pub first : sent_in trades 0 ≡ pos 0
  pub sends : (i : ℕ) → 1 ≤ i → i < f.members → sent_in trades i ≡ P.sent m.links ys (member_at f i) (member_at f (parent_at f i))

-- the position of member j
abbrev pub position_in : List ℕ → ℕ → ℕ
position_in position j = get_or position (j - 1) 0

-- `position` has the position of each of f's members
pub record Positioned (f : Feeder) (position : List ℕ) : Type 0 where
  pub at : (i : ℕ) → i < f.members → position_in position (member_at f i) ≡ i
  pub inside : (j : ℕ) → get_or position j 0 < f.members

-- no flow exceeds what its link carries
abbrev pub Fitting : Feeder → List Trade → Type 0
Fitting f trades = (i : ℕ) → i < f.members → nat_abs (sent_in trades i) ≤ toward_at f i

-- the first i lists of f stand at the start of `out`, up to the position `at`, and the rest is as in `before`
pub record Filled (f : ℕ → List ℕ) (i : ℕ) (before : List ℕ) (at : ℕ) (out : List ℕ) : Type 0 where
  pub at_is : at ≡ length (each i f)
  pub out_is : out ≡ each i f ++ drop at before
