-- Trades made one position after the other. Assumes nothing.
use mathlib.Core.Path.{◌≡◌, refl, ap}
use Rattle.std.proofs.lemmas.Grind.{common_steps}
use mathlib.Core.List.{List}
use Prim.Native.Nat.{ℕ, zero, suc, ◌+◌, ◌<◌}
use native.Mathlib.Omega.{arith}
use lib.IntN.{pos, ◌-ℤ◌}
use lib.ListN.{length, get_or, set, replicate}
use Rattle.numbers.specs.inner.Held.{units}
use Rattle.network.specs.declared.Feeder.{Feeder}
use Rattle.network.specs.inner.Feeders.{away_at}
use Rattle.engine.specs.declared.Trade.{Trade}
use Rattle.engine.specs.declared.downward.Choice.{Choice}
use Rattle.engine.specs.inner.Words.{top_of, choice_in, Flows}

-- a new array, of any type: past its end stands the same
pub blank : {A : Type 0} (d : A) (n j : ℕ) → get_or (replicate n d) j d ≡ d
blank d zero j = refl
blank d (suc n) zero = refl
blank d (suc n) (suc j) = blank d n j

abbrev none : Trade
none = record { net = units (pos 0); sent = units (pos 0) }

module _ (f : Feeder) (chosen : List Choice) where
  pub flows_none : Flows f chosen (replicate 32 none) 0
  flows_none =
      record {
        nets = λ j l. absurd (omega arith);
        sends = λ j l. absurd (omega arith);
        past = λ j l. (ap (λ (t : Trade). t.net.0) (blank none 32 j), ap (λ (t : Trade). t.sent.0) (blank none 32 j));
      }

  pub flows_more : (trades : List Trade) (i : ℕ) (t : Trade) → length trades ≡ 32 → i < 32 → Flows f chosen trades i
      → t.net.0 ≡ pos (top_of f i) -ℤ pos (choice_in chosen i).index → t.sent.0 ≡ pos (choice_in chosen i).taken -ℤ pos (away_at f i)
      → Flows f chosen (set trades i t) (i + 1)
  flows_more trades i t size l w n s =
      record {
        nets = λ j d. grind (arith, common_steps, w.nets j);
        sends = λ j d. grind (arith, common_steps, w.sends j);
        past = λ j d. grind (arith, common_steps, w.past j);
      }
