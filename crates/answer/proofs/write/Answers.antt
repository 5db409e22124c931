-- `write` meets its contract: the three parts, one after the other.
use native.Mathlib.Omega.{arith}
use mathlib.Core.Path.{◌≡◌, refl, ap, ◌∙◌}
use mathlib.Core.List.{List, ◌++◌}
use Prim.Native.Nat.{ℕ, ◌*◌, ◌-◌}
use lib.ListN.{drop, length-take, length-drop}
use Rattle.network.specs.declared.Feeder.{Feeder}
use Rattle.answer.specs.inner.Records.{members_by}
use Rattle.answer.proofs.Filled.{three_copied}
use Rattle.answer.proofs.Settled.{members_length, fitting, settles_by, answer_is, links_room}
use Rattle.answer.proofs.write.Goals as goal

pub of-allocation-requires : goal.of-allocation-requires
of-allocation-requires c = fitting c.requires.settles.2

pub write_links-requires : goal.write_links-requires
write_links-requires c =
    let f = c.args.feeder.now in
    let x = c.of-allocation.result in
    let is = c.of-allocation.ensures in
    let n : x.feeder.now.members ≡ f.members = ap (λ (k : Feeder). k.members) is.0 in
    simp (length-take, length-drop) (omega (arith, n, links_room x (settles_by x is c.requires.settles.2), f.sound.some, c.requires.room))

pub returns : goal.returns
returns c m ys S =
    let args = c.args in
    let f = args.feeder.now in
    let area = args.answer.now in
    let x = c.of-allocation.result in
    let is = c.of-allocation.ensures in
    let n : x.feeder.now.members ≡ f.members = ap (λ (k : Feeder). k.members) is.0 in
    let X = settles_by x is S in
    let some = f.sound.some in
    three_copied area _ _ _ (8 * f.members) (16 * f.members - 8) (omega (arith, n, members_length args.records.now x x.feeder.now.members)) (omega (arith, n, links_room x X)) (omega arith) 8 (16 * f.members) (omega arith)
    (c.write_members.ensures ∙ ap (λ (k : ℕ). members_by args.records.now x ++ drop (8 * k) area) n) c.write_links.ensures refl (c.copy_from_slice.ensures.after ∙ c.total.ensures)
    ∙ ap (λ (bs : List ℕ). bs ++ drop (16 * f.members) area) (answer_is x X args.total.0)
