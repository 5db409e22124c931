-- A line is put piece by piece: what is put after another is put with it in one.
use Rattle.std.proofs.Common.{◌≡◌, ℤ, rules, take, get_or, pos}
use Rattle.std.proofs.lemmas.List.{take_all}
use Rattle.print.proofs.Puts.{put_then, line_more}
use mir.Val.{to_z, of_z}
use mir.Syntax.{w64}
use Rattle.print.proofs.Page.line.Goals as goal

pub loop-n-preserved : goal.loop-n-preserved
loop-n-preserved c =
    let numbers = c.args.numbers.now in
    let i = c.loop-n.n-index in
    let z : ℤ = get_or numbers i (pos 0) in
    let read : to_z w64 (of_z w64 z) ≡ z = search rules in
    let put = put_then (put_then c.loop-n.invariant.0 c.text-in-loop-n.ensures.put) c.number.ensures.put in
    (rw (← line_more c.args.word.now numbers i c.loop-n-test.true) (rw read at put), search rules)

pub returns-clause-put : goal.returns-clause-put
returns-clause-put c =
    let put = put_then c.loop-n.invariant.0 c.text-2.ensures.put in
    let all : take c.loop-n.n-index c.args.numbers.now ≡ c.args.numbers.now = search (rules, take_all) in
    rw all at put
