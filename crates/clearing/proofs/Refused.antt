-- Refusals 1 to 11, 13 and 14: the first that applies, or none, and what is held of a file that passes. Assumes nothing.
use mathlib.Core.Path.{◌≡◌, refl}
use mathlib.Core.List.{List}
use mathlib.Core.Option.{none, some}
use Prim.Native.Nat.{ℕ, ◌*◌, ◌≤◌, ◌<◌}
use lib.ListN.{length}
use borrow.Author.Tests.{lt-ltb, le-ltb}
use Rattle.std.specs.Prelude as Std
use Rattle.std.specs.Prelude.{Ok, Err}
use Rattle.records.specs.Refusals as R
use Rattle.records.specs.Refusals.{refusal, ◌otherwise◌, place_if}
use Rattle.records.specs.Market.{market_of}
use Rattle.records.specs.declared.Refusal.{Refusal}
use Rattle.records.specs.declared.Rule.TheVariants as Rule
use Rattle.records.specs.inner.Cases.{number_of, refusal_in, verdict_of}
use Rattle.records.proofs.Allowed.{error_is}
use Rattle.network.specs.declared.Feeder.{Feeder}
use Rattle.market.specs.Refusals.{file_refusal}
use Rattle.market.specs.inner.Feeders.{FeederOf, Checked}
use Rattle.market.proofs.Allowed.{file_allowed}
use Rattle.market.proofs.Laid.{file_laid}
use Rattle.clearing.specs.Outcome.{code}
use Rattle.clearing.specs.Promise.{too_short, refusal_of, Result}
use Rattle.clearing.specs.Promise.Result.{refused}
use Rattle.clearing.specs.inner.Words.{Held, returned}

-- nothing is refused where the area has room
pub room_none : (f : List ℕ) (room : ℕ) → file_refusal f ≡ none → 16 * (market_of f).members ≤ room → refusal_of f room ≡ none
unfolding refusal_of too_short place_if refusal ◌otherwise◌
room_none f room e l = rw (e, le-ltb room (16 * (market_of f).members) l)

-- refusals 1 to 10, 13 and 14, in an area of any room
pub file_some : (f : List ℕ) (room : ℕ) (r : R.Refusal) → file_refusal f ≡ some r → refusal_of f room ≡ some r
unfolding refusal_of ◌otherwise◌
file_some f room r e = rw e

-- refusal 11
pub room_some : (f : List ℕ) (room : ℕ) → file_refusal f ≡ none → room < 16 * (market_of f).members → refusal_of f room ≡ some (record { number = 11; place = 16 * (market_of f).members })
unfolding refusal_of too_short place_if refusal ◌otherwise◌
room_some f room e l = rw (e, lt-ltb room (16 * (market_of f).members) l)

-- what is returned at refusals 1 to 10, 13 and 14
pub file_refused : (f area : List ℕ) (r : Refusal) → verdict_of (file_refusal f) ≡ Err r → Result f area (returned (Err r)) area
unfolding refusal_of ◌otherwise◌ code refusal_in
file_refused f area r e = refused (refusal_in r) (rw (error_is tt (file_refusal f) (file_allowed f) r e))

-- and at refusal 11
pub short_refused : (f area : List ℕ) (size : ℕ) → file_refusal f ≡ none → size ≡ 16 * (market_of f).members → length area < size
    → Result f area (returned (Err (record { rule = Rule.NoRoom; place = size }))) area
unfolding refusal_of too_short place_if refusal ◌otherwise◌ code number_of
short_refused f area size e is l =
    refused (record { number = 11; place = size }) (rw (e, ← is, lt-ltb (length area) size l))

-- a file for which the market's checks give no refusal passes them
pub checked_sound : (f : List ℕ) (c : Std.Result Feeder Refusal) → Checked f c → ((r : Refusal) → c ≡ Err r → ⊥) → file_refusal f ≡ none
checked_sound f (Ok x) is d = is.0
checked_sound f (Err r) is d = absurd (d r refl)

-- a file that passes is held as its market's feeder
pub file_held : (f : List ℕ) (x : Feeder) → file_refusal f ≡ none → FeederOf (market_of f) x → Held (market_of f) x f
unfolding market_of
file_held f x e F = record { laid = file_laid f e x F; tables = refl }
