-- `clear` meets its contract: refusals 1 to 11, 13 and 14 leave the area as it was, and a sound file is a market that has its outcome.
use mathlib.Core.Path.{◌≡◌}
use Prim.Native.Nat.{◌*◌}
use native.Mathlib.Omega.{arith}
use Rattle.records.specs.Market.{market_of}
use Rattle.clearing.specs.Promise.Result.{settled}
use Rattle.clearing.proofs.Refused.{room_none, short_refused, file_held}
use Rattle.clearing.proofs.clear.Goals as goal

pub returns-then-short-clause-promise : goal.returns-then-short-clause-promise
returns-then-short-clause-promise c =
    let f = c.args.file.now in
    let ok = c.in_ok-feeder.ensures in
    let size : 16 * c.in_ok-feeder.feeder.members ≡ 16 * (market_of f).members = omega (arith, ok.1.members) in
    short_refused f c.args.answer.now _ ok.0 size c.if-short.true

pub returns-clause-promise : goal.returns-clause-promise
returns-clause-promise c =
    let f = c.args.file.now in
    let ok = c.in_ok-feeder.ensures in
    settled (room_none f _ ok.0 (omega (arith, ok.1.members, c.if-short.false))) (c.allocate.ensures.outcome _ (file_held f _ ok.0 ok.1))
