-- `write_links` meets its contract: a member's records follow those of the members before it.
use native.Mathlib.Omega.{arith}
use mathlib.Core.Path.{◌≡◌, refl, ap, ◌∙◌}
use mathlib.Core.List.{List}
use Prim.Native.Nat.{ℕ, ◌+◌, ◌≤◌}
use lib.ListN.{length, length-take, length-drop}
use Rattle.answer.specs.inner.Records.{links_of}
use Rattle.answer.proofs.Filled.{filled_none, filled_more, filled_next, filled_done}
use Rattle.answer.proofs.allocation.Allocation.write_links.Goals as goal

pub loop-i-init : goal.loop-i-init
loop-i-init c = filled_none _ _

pub write_links_of-at-requires : goal.write_links_of-at-requires
write_links_of-at-requires c =
    let a = c.args.self.now in
    let by : ℕ → List ℕ = links_of a in
    let room : c.loop-i.at + length (by (c.loop-i.i + 1)) ≤ length c.args.out.now = filled_next by c.args.out.now a.feeder.now.members c.loop-i.invariant (omega arith) c.requires in
    (omega arith, omega arith, simp (length-take, length-drop) (omega (arith, room, ap (λ (m : ℕ). length (by m)) c.at.ensures)))

pub loop-i-preserved : goal.loop-i-preserved
loop-i-preserved c =
    let a = c.args.self.now in
    let by : ℕ → List ℕ = links_of a in
    let w = c.write_links_of-at.ensures in
    filled_more by c.args.out.now _ c.loop-i.invariant (w.at_is ∙ ap (λ (m : ℕ). length (by m)) c.at.ensures) (rw c.at.ensures at w.out_is)

pub returns : goal.returns
returns c = let end : c.loop-i.i ≡ c.args.self.now.feeder.now.members = omega arith in filled_done _ _ _ _ c.loop-i.invariant end refl
