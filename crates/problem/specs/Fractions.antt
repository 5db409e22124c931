-- docs/RULES.md, "In fractions of a unit": flows and nets are counted in d-ths, d being 1 or more, and capacities, units, prices and
-- bases are multiplied by d. A slope is a price for each unit and stays. So a market in d-ths is a market again, and what is possible
-- in it is said already.
use Rattle.std.specs.Prelude.{List, map, ℕ, ◌*◌, ℤ, pos, ◌*ℤ◌, ◌≤ℤ◌}
use Rattle.problem.specs.Problem.{Link, Terms, Offer, Market, Possible, Impossible}

-- a flow y has |y| ≤ d * capacity
abbrev pub link_in : ℕ → Link → Link
link_in d l = record { a = l.a; b = l.b; capacity = d * l.capacity }

-- a point gives d times its price for exactly d times its units; a span slope times x plus d times its base, for every x from d
-- times low to d times high
unfoldable pub terms_in : ℕ → Terms → Terms
terms_in d (Terms.point units price) = Terms.point (pos d *ℤ units) (pos d *ℤ price)
terms_in d (Terms.span low high slope base) = Terms.span (pos d *ℤ low) (pos d *ℤ high) slope (pos d *ℤ base)

abbrev pub offer_in : ℕ → Offer → Offer
offer_in d o = record { member = o.member; terms = terms_in d o.terms }

abbrev pub market_in : ℕ → Market → Market
market_in d m = record { members = m.members; links = map (link_in d) m.links; offers = map (offer_in d) m.offers }

-- the flows ys, in d-ths, are possible, and total t, in d-ths
abbrev pub PossibleIn : ℕ → Market → List ℤ → ℤ → Type 0
PossibleIn d m ys t = Possible (market_in d m) ys t

-- no allocation in d-ths is possible
abbrev pub ImpossibleIn : ℕ → Market → Type 0
ImpossibleIn d m = Impossible (market_in d m)

-- the flows ys, in d-ths, are possible with the total t, in d-ths, and no possible ones total more
pub record HighestIn (d : ℕ) (m : Market) (ys : List ℤ) (t : ℤ) : Type 0 where
  pub possible : PossibleIn d m ys t
  pub highest : (zs : List ℤ) (u : ℤ) → PossibleIn d m zs u → u ≤ℤ t

-- flows in whole units, as d-ths
abbrev pub flows_in : ℕ → List ℤ → List ℤ
flows_in d ys = map (λ y. pos d *ℤ y) ys
