-- Lines of prices.
use Rattle.std.specs.Prelude.{◌≡◌, true, ℤ, pos, neg_ℤ, ◌+ℤ◌, ◌*ℤ◌}
use Rattle.numbers.specs.Whole.{within}

-- from low to high every number of units has an amount in a price's range
abbrev pub Ranged : ℤ → ℤ → ℤ → ℤ → Type 0
Ranged low high slope base = (x : ℤ) → within low high x ≡ true → within (neg_ℤ (pos 1000000)) (pos 1000000) ((slope *ℤ x) +ℤ base) ≡ true
