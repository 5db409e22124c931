-- `put` meets its contract. The loop's invariant: the cells from start on that are below end are those that the span
-- covers; those below x are the higher of what they held and what the span gives, those from x on are as they were, and p is
-- the span's price at cell x. Assumes nothing.
use mathlib.Core.Path.{sym, ap, ◌∙◌, subst}
use Prim.Native.Nat.{◌^◌, ◌<◌}
use native.Mathlib.Omega.{arith}
use borrow.Author.Rules.{rules}
use lib.IntN.{ℤ, pos, neg_ℤ, nat_abs}
use lib.ListN.{length}
use Rattle.numbers.specs.Whole.{within}
use Rattle.rows.proofs.Lines.{on_line, exchanged, Covered, covered, line_small, put_none, put_more, put_done}
use Rattle.rows.proofs.span.Span.put.Goals as goal

pub loop-x-init : goal.loop-x-init
loop-x-init c =
    let C : Covered c.args.self c.args.top.0 (length c.args.row.now) c.place_of-start.result c.cells_to-end.result = record { starts = search rules; ends = c.cells_to-end.ensures.1; short = c.cells_to-end.ensures.0 } in
    (C, put_none c.args.self c.args.top.0 _ _ _ C _ (c.amount-p.ensures ∙ ap (λ (z : ℤ). on_line c.args.self z) (exchanged _ _ _ (sym c.place_of-start.ensures))))

pub cell_of-requires : goal.cell_of-requires
cell_of-requires c =
    let i = c.loop-x.invariant in
    ap (λ (z : ℤ). within (neg_ℤ (pos 1000000)) (pos 1000000) z) i.1.price
    ∙ c.args.self.ranged _ (covered _ _ _ _ _ i.0 _ i.1.past c.loop-x-test.true)

pub less-p-requires : goal.less-p-requires
less-p-requires c =
    let i = c.loop-x.invariant in
    subst (λ (z : ℤ). nat_abs z < 2 ^ 62) (sym i.1.price) (line_small c.args.self _ (covered _ _ _ _ _ i.0 _ i.1.past c.loop-x-test.true))

pub loop-x-preserved : goal.loop-x-preserved
loop-x-preserved c =
    let i = c.loop-x.invariant in
    (i.0, put_more _ _ _ _ _ i.0 _ _ _ i.1 _ _ c.loop-x-test.true (omega arith) c.less-p.ensures)

pub returns : goal.returns
returns c = let i = c.loop-x.invariant in put_done _ _ _ _ _ i.0 _ _ _ i.1 c.loop-x-test.false
