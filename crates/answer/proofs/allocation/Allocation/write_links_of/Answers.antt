-- `write_links_of` meets its contract.
use native.Mathlib.Omega.{arith}
use mathlib.Core.Path.{refl, sym, ap, ◌∙◌}
use Rattle.answer.specs.inner.Records.{link_by}
use Rattle.answer.proofs.Filled.{filled_none, filled_copied, filled_skip, filled_next}
use Rattle.answer.proofs.Joints.{no_record, one_record, one_long}
use Rattle.answer.proofs.allocation.Allocation.write_links_of.Goals as goal

pub loop-i-init : goal.loop-i-init
loop-i-init c = filled_none _ _

pub loop-i-preserved-in_default : goal.loop-i-preserved-in_default
loop-i-preserved-in_default c =
    let a = c.args.self.now in
    filled_skip _ _ c.loop-i.invariant (ap (link_by a c.args.a.0) (sym c.at-b.ensures) ∙ no_record a c.args.a.0 _ c.link_between.ensures.is c.in_default.not-Some)

pub slice_bounds-copy_from_slice-end : goal.slice_bounds-copy_from_slice-end
slice_bounds-copy_from_slice-end c =
    let a = c.args.self.now in
    omega (
      arith,
      rw c.at-b.ensures at (one_long a c.args.a.0 _ c.link_between.ensures.is c.in-Some.is c.from_lower-flow.ensures),
      filled_next _ c.args.out.now a.feeder.now.members c.loop-i.invariant (omega arith) c.requires.2,
    )

pub loop-i-preserved : goal.loop-i-preserved
loop-i-preserved c =
    let a = c.args.self.now in
    let is = c.link_between.ensures.is in
    let flow = c.from_lower-flow.ensures in
    filled_copied _ _ 8 c.loop-i.invariant (rw c.at-b.ensures at (one_long a c.args.a.0 _ is c.in-Some.is flow))
    (c.copy_from_slice.ensures.after ∙ c.link.ensures _ (c.load_of-load.ensures _ _) ∙ one_record a c.args.a.0 _ is c.in-Some.is flow ∙ ap (link_by a c.args.a.0) c.at-b.ensures) refl
