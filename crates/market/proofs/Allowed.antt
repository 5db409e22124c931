-- A refusal of a file is one that the table allows: its number is one that a file gets, and its place has 16 bits. Assumes nothing.
use mathlib.Core.Path.{refl}
use mathlib.Core.Bool.{Bool, true, false}
use mathlib.Core.List.{List, [], ◌∷◌}
use mathlib.Core.Option.{some, none-ne-some}
use Prim.Native.Nat.{ℕ, zero, suc, ◌+◌, ◌/◌, ◌≤◌}
use native.Mathlib.Omega.{arith}
use lib.ListN.{length}
use borrow.Author.Tests.{ltb-true}
use Rattle.records.specs.Records.{Entry, entry_at, entries_from, entries}
use Rattle.records.specs.Refusals.{refusal, file_limit}
use Rattle.records.specs.Market.{market_of}
use Rattle.records.proofs.Entries.{sound_short}
use Rattle.records.proofs.Allowed.{IfAllowed, IfPlaced, here, placed_if, refusal_allowed, first_allowed, unsound_allowed}
use Rattle.market.specs.Refusals.{lowest_member, first_record, no_offer, without, too_many, closes, apart, from10, from9, file_refusal}
use Rattle.market.proofs.Top.{market_few}

-- the first record that passes, of n from record i on
record_placed : (p : List Entry → Entry → Bool) (f : List ℕ) (i n : ℕ) (earlier : List Entry) → i + n ≤ 65536 → IfPlaced (first_record p i earlier (entries_from f i n))
unfolding first_record entries_from
record_placed p f i zero earlier h = λ q e. absurd (none-ne-some q e)
record_placed p f i (suc n) earlier h = go (p earlier (entry_at f i)) (record_placed p f (suc i) n (entry_at f i ∷ earlier) (omega (arith, h)))
  where
    go : (t : Bool) → IfPlaced (first_record p (suc i) (entry_at f i ∷ earlier) (entries_from f (suc i) n))
        → IfPlaced (elim t [ true ↦ some i | false ↦ first_record p (suc i) (entry_at f i ∷ earlier) (entries_from f (suc i) n) ])
    go true l = here (omega (arith, h))
    go false l = l

-- the lowest member of a file that passes
member_placed : (p : ℕ → Bool) (f : List ℕ) → IfPlaced (lowest_member p (market_of f).members)
unfolding lowest_member
member_placed p f = placed_if _ _ (λ t. omega (arith, ltb-true _ (market_of f).members t, market_few f))

-- refusals 9 and 10 of a file that is not too long
from9_allowed : (f : List ℕ) → length f ≤ file_limit → IfAllowed (from9 f)
unfolding apart entries
from9_allowed f h =
    first_allowed (refusal 9 (first_record closes 0 [] (entries f))) (from10 f)
    (refusal_allowed 9 _ refl (record_placed closes f 0 (length f / 8) [] (omega arith)))
    (λ e9. refusal_allowed 10 _ refl (member_placed _ f))

-- refusals 1 to 10, 13 and 14
pub file_allowed : (f : List ℕ) → IfAllowed (file_refusal f)
unfolding file_refusal no_offer without too_many
file_allowed f =
    first_allowed _ _ (unsound_allowed f)
    (λ e.
    first_allowed _ _ (refusal_allowed 5 _ refl (placed_if _ _ (λ t. omega arith)))
    (λ e5.
    first_allowed _ _ (refusal_allowed 6 _ refl (member_placed _ f))
    (λ e6.
    first_allowed _ _ (refusal_allowed 7 _ refl (member_placed _ f))
    (λ e7. from9_allowed f (sound_short f e)))))
