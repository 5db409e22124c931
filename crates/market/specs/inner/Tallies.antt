-- What a tally says of records.
use Rattle.std.specs.Prelude.{◌≡◌, Bool, cond, ◌||◌, [], ◌∷◌, ℕ, suc, ◌+◌, ◌<◌, max, eqb, nat_lt, length, get_or}
use Rattle.records.specs.Records.{Entry}
use Rattle.records.specs.Market.{members_of, offers_of}
use Rattle.market.specs.Refusals.{offers_by}
use Rattle.market.specs.declared.offers.Tally.{Tally}

-- r is t with an offer of member m
pub record Offered (m : ℕ) (t r : Tally) : Type 0 where
  pub members : r.members.0 ≡ max t.members.0 m
  pub offers : r.offers ≡ t.offers + 1
  pub by : (j : ℕ) → j < 32 → get_or r.by j 0 ≡ get_or t.by j 0 + cond (eqb (suc j) m) 1 0
  pub wide : length r.by ≡ length t.by

-- r is t with the record e
pub record Counts (e : Entry) (t r : Tally) : Type 0 where
  pub members : r.members.0 ≡ max t.members.0 (members_of (e ∷ []))
  pub offers : r.offers ≡ t.offers + length (offers_of (e ∷ []))
  pub by : (j : ℕ) → j < 32 → get_or r.by j 0 ≡ get_or t.by j 0 + offers_by (suc j) (offers_of (e ∷ []))
  pub wide : length r.by ≡ length t.by

-- fewer than `least` or more than `most`
abbrev pub outside : ℕ → ℕ → ℕ → Bool
outside least most x = nat_lt x least || nat_lt most x
