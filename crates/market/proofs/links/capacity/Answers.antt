-- `capacity` meets its contract. Assumes nothing.
use mathlib.Core.Path.{sym, ◌∙◌}
use Rattle.std.proofs.lemmas.Option.{MatchOption-at_some, MatchOption-at_none}
use Rattle.market.proofs.Kept.{capacity_found}
use Rattle.market.proofs.links.capacity.Goals as goal

pub returns-in-Some : goal.returns-in-Some
returns-in-Some c = MatchOption-at_some _ _ _ (sym c.between.ensures ∙ c.in-Some.is) (capacity_found c.args.links.now c.args.u.0 c.args.v.0)

pub returns-in-None : goal.returns-in-None
returns-in-None c = MatchOption-at_none _ _ (sym c.between.ensures ∙ c.in-None.is) (capacity_found c.args.links.now c.args.u.0 c.args.v.0)
