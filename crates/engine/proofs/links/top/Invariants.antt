-- `top` meets its contract. The loop's invariant: the sum is that of the positions below k.
use mathlib.Core.Path.{◌≡◌}
use Prim.Native.Nat.{◌*◌, ◌≤◌}
use Rattle.engine.proofs.Tops.{top_to}
use Rattle.engine.proofs.links.top.Given as goal

abbrev pub invariant-loop-k : goal.invariant-loop-k
invariant-loop-k l = record {
  few : l.sum ≤ 40 * l.k;
  added : l.sum ≡ top_to l.feeder l.v l.k;
}
