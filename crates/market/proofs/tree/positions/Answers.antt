-- `positions` meets its contract, one position a turn. Assumes nothing.
use mathlib.Core.Path.{refl, ◌∙◌}
use native.Mathlib.Omega.{arith}
use Rattle.std.proofs.Math.ListN.{length-set}
use Rattle.std.proofs.Common.{below_more, get_or-set_same, get_or-set_other}
use Rattle.network.proofs.Near.{blank_none, blank_set}
use Rattle.network.specs.inner.Positions.{no_position}
use Rattle.market.proofs.Arrays.{step_made}
use Rattle.market.proofs.tree.positions.Goals as goal

pub loop-i-init : goal.loop-i-init
loop-i-init c = record { at = λ k h. absurd (omega arith); long = refl; past = blank_none no_position 32 0 }

pub loop-i-preserved : goal.loop-i-preserved
loop-i-preserved c = record {
  at =
      below_more _ _ (λ k h. get_or-set_other c.loop-i.out c.loop-i.i k _ no_position (λ e. omega arith) ∙ c.loop-i.invariant.at k h)
      (get_or-set_same c.loop-i.out c.loop-i.i _ no_position (omega (arith, c.loop-i.invariant.long, c.requires.0)) ∙ step_made _ _ _ _ _ c.from.ensures c.capacity-most.ensures);
  long = length-set c.loop-i.out c.loop-i.i _ ∙ c.loop-i.invariant.long;
  past = blank_set no_position c.loop-i.out c.loop-i.i _ c.loop-i.invariant.past;
}
