-- A file's links as they are kept, in the file's order.
use Rattle.std.specs.Prelude.{List, [], ℕ, map, nat_abs}
use Rattle.problem.specs.Problem.{Link, Market}
use Rattle.market.specs.declared.line.Line.{Line}

-- the link that a line is
abbrev pub link_in : Line → Link
link_in x = record { a = x.ends.a.0; b = x.ends.b.0; capacity = nat_abs x.capacity.0 }

abbrev pub kept : List Line → List Link
kept s = map link_in s

-- a market of which the offers are not looked at
abbrev pub market_on : ℕ → List Link → Market
market_on n ls = record { members = n; links = ls; offers = [] }
