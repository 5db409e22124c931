-- What clearing is given of a market past the reading of its file, and the number of what it gives.
use Rattle.std.specs.Prelude.{◌≡◌, List, ℕ, ◌+◌, ◌*◌, Result, Ok, Err}
use Rattle.problem.specs.Problem.{Market}
use Rattle.network.specs.declared.Feeder.{Feeder}
use Rattle.network.specs.inner.Laid.{Laid}
use Rattle.records.specs.Records.{entries}
use Rattle.records.specs.Market.{offers_of}
use Rattle.records.specs.declared.Refusal.{Refusal}
use Rattle.records.specs.inner.Cases.{number_of}

-- f is the feeder of the market m, and the records `records` hold its tables
pub record Held (m : Market) (f : Feeder) (records : List ℕ) : Type 0 where
  pub laid : Laid m f
  pub tables : m.offers ≡ offers_of (entries records)

-- the number returned: the bytes written, or a refusal's
abbrev pub returned : Result ℕ Refusal → ℕ
returned (Ok n) = n
returned (Err r) = 65536 * number_of r.rule + r.place
