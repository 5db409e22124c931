-- A market on a tree, by the positions of its walk: position 0 is member 1, position i the i-th member reached.
use Rattle.std.specs.Prelude.{◌≡◌, cond, List, [], ◌∷◌, ℕ, suc, ◌<◌, ◌≤◌, eqb, length, pos, Result, Err, MatchResult}
use Rattle.std.proofs.Math.Option.{Option, none}
use Rattle.numbers.specs.declared.Units.{Units}
use Rattle.numbers.specs.inner.Held.{member, units}
use Rattle.problem.specs.Problem.{Link, Market, Stop, joins, lowest, walk}
use Rattle.network.specs.declared.Feeder.{Feeder}
use Rattle.network.specs.declared.Position.{Position}
use Rattle.network.specs.declared.walk.Step.{Step}
use Rattle.network.specs.inner.Walks.{walked_at, walked_from}
use Rattle.network.specs.inner.Positions.{no_position, position_at}
use Rattle.records.specs.Refusals as R
use Rattle.records.specs.declared.Refusal.{Refusal}
use Rattle.records.specs.Market.{market_of}
use Rattle.records.specs.inner.Cases.{verdict_of}
use Rattle.market.specs.Refusals.{file_refusal}

-- the member at position i; the stops stand latest first
unfoldable pub reached_at : List Stop → ℕ → ℕ
reached_at [] i = 1
reached_at (s ∷ seen) i = cond (eqb i (suc (length seen))) s.at (reached_at seen i)

-- the member that it was reached from
unfoldable pub reached_from : List Stop → ℕ → ℕ
reached_from [] i = 1
reached_from (s ∷ seen) i = cond (eqb i (suc (length seen))) s.from (reached_from seen i)

-- the position of member v
unfoldable pub position_of : List Stop → ℕ → ℕ
position_of seen v = lowest (λ i. eqb (reached_at seen i) v) (suc (length seen))

-- the most that can flow from u to v over the link between them; 0 where there is none
unfoldable pub capacity_of : List Link → ℕ → ℕ → ℕ
capacity_of [] u v = 0
capacity_of (l ∷ ls) u v = cond (joins l u v) l.capacity (capacity_of ls u v)

-- what stands at position i
unfoldable pub laid_at : Market → ℕ → Position
laid_at m i =
    let seen : List Stop = walk m in
    record {
      member = member (reached_at seen i);
      parent = position_of seen (reached_from seen i);
      toward = units (pos (capacity_of m.links (reached_at seen i) (reached_from seen i)));
      away = units (pos (capacity_of m.links (reached_from seen i) (reached_at seen i)));
    }

-- position i of a walk over links, by its steps
unfoldable pub step_at : List Link → List Step → ℕ → Position
step_at ls steps i =
    let most : Units = units (pos (capacity_of ls (walked_at steps i) (walked_at steps (walked_from steps i)))) in
    record { member = member (walked_at steps i); parent = walked_from steps i; toward = most; away = most }

-- what stands at each position of the market's walk, and nothing past its members
pub record PositionsOf (m : Market) (ps : List Position) : Type 0 where
  pub at : (i : ℕ) → i < m.members → position_at ps i ≡ laid_at m i
  pub past : (i : ℕ) → m.members ≤ i → position_at ps i ≡ no_position

-- f is the market's feeder
pub record FeederOf (m : Market) (f : Feeder) : Type 0 where
  pub members : f.members ≡ m.members
  pub positions : PositionsOf m f.position

-- what a check finds: where it refuses nothing, something that meets P, and `later` is what is left to be said of the file;
-- else the refusal that the file has
abbrev pub Finds : {A : Type 0} → (A → Type 0) → Option R.Refusal → Option R.Refusal → Result A Refusal → Type 0
Finds P now later r = MatchResult r (λ x. (now ≡ later) × P x) (λ e. verdict_of now ≡ Err e)

-- the feeder of a market that nothing is said against, or the refusal
abbrev pub Checked : List ℕ → Result Feeder Refusal → Type 0
Checked file r = Finds (FeederOf (market_of file)) (file_refusal file) none r
