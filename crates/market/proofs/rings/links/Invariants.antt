-- `links` meets its contract. The outer loop's invariant: the sets and the lines keep the links before record i, and none of these
-- closes a ring. The inner loop's: none of the sets before the next holds both ends of the link of record i. Assumes nothing.
use Rattle.std.proofs.Common.{◌-◌}
use Rattle.network.specs.inner.Sets.{set_in}
use Rattle.market.proofs.Scan.{Pass, Searched}
use Rattle.market.proofs.rings.links.Given as goal

abbrev pub invariant-records : goal.invariant-records
invariant-records l = Pass l.file l.parts l.links.items l.i-end l.i

abbrev pub invariant-parts : goal.invariant-parts
invariant-parts l = Searched (set_in l.part-items) (l.line.ends.a.0 - 1) (l.line.ends.b.0 - 1) l.m.0 l.part-index
