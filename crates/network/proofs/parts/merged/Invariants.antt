use Rattle.std.proofs.Common.{◌≡◌, ℕ, ◌<◌, ◌≤◌, cond}
use Rattle.network.specs.inner.Sets.{index, set_in}
use Rattle.network.specs.inner.Parts.{touches}
use Rattle.network.proofs.parts.merged.Given as goal

abbrev pub invariant-loop-part : goal.invariant-loop-part
invariant-loop-part l =
    ((e : ℕ) → e < l.part-index → set_in l.part-items e ≡ cond (touches (set_in l.initial.part-items e) (index l.link.a) (index l.link.b)) l.m.0 (set_in l.initial.part-items e))
    × ((e : ℕ) → l.part-index ≤ e → set_in l.part-items e ≡ set_in l.initial.part-items e)
