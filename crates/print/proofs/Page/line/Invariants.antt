-- The loop of `line`: the word is put, and the first numbers, on the bytes that were lent.
use Rattle.std.proofs.Common.{◌≡◌, ◌++◌, take}
use Rattle.std.specs.List.{flat_map}
use Rattle.print.specs.inner.Page.{Put, blank_and}
use Rattle.print.proofs.Page.line.Given as goal

abbrev pub invariant-loop-n : goal.invariant-loop-n
invariant-loop-n l =
    Put l.fn.self.bytes.now l.fn.self.end (l.word ++ flat_map blank_and (take l.n-index l.numbers)) l.self.bytes.now l.self.end
    × (l.self.bytes.ghost_name ≡ l.fn.self.bytes.ghost_name)
