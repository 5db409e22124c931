-- The loop of `lines`: the page is on the bytes that were lent, and as long as it was.
use Rattle.std.proofs.Common.{◌≡◌, length}
use Rattle.show.proofs.lines.Given as goal

abbrev pub invariant-loop-record : goal.invariant-loop-record
invariant-loop-record l =
    (l.page.bytes.ghost_name ≡ l.fn.page.bytes.ghost_name) × (length l.page.bytes.now ≡ length l.fn.page.bytes.now)
