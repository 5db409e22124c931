use Rattle.std.proofs.Common.{arith}
use Rattle.network.specs.inner.Sets.{index}
use Rattle.network.proofs.Bit.{lowest_full, lowest_trailing}
use Rattle.network.proofs.bits.Members.lowest_missing.Goals as goal

pub returns-then-self-from : goal.returns-then-self-from
returns-then-self-from c = lowest_full _ _ c.requires.1 (omega arith)

pub returns-else-self-from : goal.returns-else-self-from
returns-else-self-from c =
    let low = lowest_trailing _ _ c.requires.1 32 c.requires.0 (index c.at.result) (omega arith) (λ e. omega (arith, e)) in
    (omega arith, omega (arith, low.0), low.1)
