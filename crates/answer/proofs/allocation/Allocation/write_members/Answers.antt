-- `write_members` meets its contract.
use native.Mathlib.Omega.{arith}
use mathlib.Core.Path.{refl, sym, ap, ◌∙◌}
use mathlib.Core.List.{List}
use Prim.Native.Nat.{ℕ}
use lib.ListN.{length}
use Rattle.records.proofs.Written.{member_8}
use Rattle.answer.specs.inner.Records.{member_by}
use Rattle.answer.proofs.Filled.{filled_none, filled_copied}
use Rattle.answer.proofs.Settled.{member_by_lem}
use Rattle.answer.proofs.Worths.{price_is}
use Rattle.answer.proofs.allocation.Allocation.write_members.Goals as goal

pub loop-i-init : goal.loop-i-init
loop-i-init c = filled_none _ _

pub loop-i-preserved : goal.loop-i-preserved
loop-i-preserved c =
    let a = c.args.self.now in
    let by : ℕ → List ℕ = member_by c.args.records.now a in
    let next = member_by_lem c.args.records.now a c.loop-i.i c.at-j.ensures refl (price_is c.unwrap_or-value.ensures _ c.value_of.ensures) in
    filled_copied by c.args.out.now 8 c.loop-i.invariant (sym (ap length (sym next) ∙ member_8 _ _ _)) (c.copy_from_slice.ensures.after ∙ c.member.ensures ∙ next) (omega arith)
