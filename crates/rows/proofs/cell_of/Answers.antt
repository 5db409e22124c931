-- `cell_of` meets its contract: a price in range and 1,000,001 make the price's cell. Assumes nothing.
use mathlib.Core.Option.{some}
use native.Mathlib.Omega.{arith}
use borrow.Author.Rules.{rules}
use Rattle.std.proofs.lemmas.Int.{ints}
use Rattle.numbers.proofs.Tests.{within_true}
use Rattle.rows.proofs.Prices.{cell_is, cell_top}
use Rattle.rows.proofs.cell_of.Goals as goal

pub overflow_add-result : goal.overflow_add-result
overflow_add-result c = let h = within_true _ _ _ c.requires in let e = c.number.ensures in omega (arith, ints)

pub overflow_cast-result : goal.overflow_cast-result
overflow_cast-result c =
    let h = within_true _ _ _ c.requires in
    let e = c.number.ensures in
    search (rules, ints)

pub returns : goal.returns
returns c =
    let h = within_true _ _ _ c.requires in
    let e = c.number.ensures in
    let d = cell_is 1000000 c.args.p.0 h.0 in
    let t = cell_top 1000000 (some c.args.p.0) h in
    omega (arith, ints)
