-- A feeder is a market's.
use Rattle.std.specs.Prelude.{◌≡◌, ℕ, ◌<◌}
use Rattle.problem.specs.Problem.{Market}
use Rattle.problem.proofs.Tree.{Tree}
use Rattle.problem.proofs.Arrange.{parent, member}
use Rattle.problem.proofs.Cleared.{up_of, down_of}
use Rattle.network.specs.declared.Feeder.{Feeder}
use Rattle.network.specs.inner.Feeders.{member_at, parent_at, toward_at, away_at}

-- f is the feeder of the market m, whose links are a tree
pub record Laid (m : Market) (f : Feeder) : Type 0 where
  pub tree : Tree m
  pub members : f.members ≡ m.members
  pub member_is : (i : ℕ) → i < f.members → member_at f i ≡ member m i
  pub parent_is : (i : ℕ) → parent_at f i ≡ parent m i
  pub toward_is : (i : ℕ) → toward_at f i ≡ up_of m i
  pub away_is : (i : ℕ) → away_at f i ≡ down_of m i
