-- `trade_of` meets its contract: what is sent is what the choice takes, less what the link carries away.
use mathlib.Core.Path.{ap₂, ◌∙◌}
use lib.IntN.{◌-ℤ◌}
use Rattle.engine.proofs.downward.trade_of.Goals as goal

pub returns-clause-sent : goal.returns-clause-sent
returns-clause-sent c = c.sub-sent.ensures ∙ ap₂ ◌-ℤ◌ c.of-flow.ensures (c.args.feeder.now.sound.away c.args.i).0
