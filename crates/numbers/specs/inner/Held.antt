-- Whole numbers held in their types, and arrays of them read by place; past the end stands 0.
use Rattle.std.specs.Prelude.{List, ℕ, ℤ, pos, get_or}
use Rattle.numbers.specs.declared.Member.{Member}
use Rattle.numbers.specs.declared.Units.{Units}
use Rattle.numbers.specs.declared.Price.{Price}
use Rattle.numbers.specs.declared.Slope.{Slope}

abbrev pub member : ℕ → Member
member j = record { 0 = j }

abbrev pub units : ℤ → Units
units z = record { 0 = z }

abbrev pub price : ℤ → Price
price z = record { 0 = z }

abbrev pub slope : ℤ → Slope
slope z = record { 0 = z }

abbrev pub member_in : List Member → ℕ → ℕ
member_in js i = (get_or js i (member 0)).0

abbrev pub units_in : List Units → ℕ → ℤ
units_in us i = (get_or us i (units (pos 0))).0
