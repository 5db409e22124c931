-- The members' neighbours as sets, the search for a walk's next step over them, and what its array holds.
use Rattle.std.specs.Prelude.{◌≡◌, not, List, ℕ, zero, suc, ◌-◌, ◌^◌, ◌≤◌, ◌<◌, eqb, length, get_or, set, Option, Some, None}
use Rattle.std.proofs.Math.Option.{some, none}
use Rattle.std.proofs.Math.Option as maybe
use Rattle.std.specs.Int.Bits.{bit_and, bit_or}
use Rattle.std.specs.Int.Count.{count_trailing_zeros}
use Rattle.numbers.specs.inner.Held.{member}
use Rattle.problem.specs.Problem.{Link, neighbours}
use Rattle.problem.proofs.Tree.{Within}
use Rattle.problem.proofs.Steps.{Hop, at_pos, reached, or_else, hops}
use Rattle.problem.proofs.Places.{from_pos}
use Rattle.network.specs.inner.Sets.{Numbered, holds, set_in}
use Rattle.network.specs.declared.bits.Members.{Members}
use Rattle.network.specs.declared.walk.Step.{Step}

-- the member of index x in the set at i
abbrev pub mark : List Members → ℕ → ℕ → List Members
mark adj i x = set adj i (record { 0 = bit_or (set_in adj i) (2 ^ x) })

-- the members of indices a and b are neighbours
abbrev pub add_masks : List Members → ℕ → ℕ → List Members
add_masks adj a b = mark (mark adj a b) b a

-- the sets are of the links
abbrev pub Masks : List Members → List Link → Type 0
Masks adj ls = (v w : ℕ) → v < 32 → holds (set_in adj v) w ≡ neighbours ls (suc v) (suc w)

-- and of members from 1 to n
pub record Adj (ls : List Link) (n : ℕ) (adj : List Members) : Type 0 where
  pub some_member : 0 < n
  pub few : n ≤ 32
  pub within : Within n ls
  pub masks : (v w : ℕ) → v < n → holds (set_in adj v) w ≡ neighbours ls (suc v) (suc w)

-- the neighbours not yet reached
abbrev pub free_mask : ℕ → ℕ → ℕ
free_mask nb mask = bit_and nb ((2 ^ 32 - 1) - mask)

-- no step
abbrev pub blank : Step
blank = record { member = member 0; from = 0 }

-- the member at a position, and the position that it was reached from
abbrev pub walked_at : List Step → ℕ → ℕ
walked_at steps i = (get_or steps i blank).member.0

abbrev pub walked_from : List Step → ℕ → ℕ
walked_from steps i = (get_or steps i blank).from

-- the members at the positions below count are those that a set can have
abbrev pub Known : List Step → ℕ → Type 0
Known steps count = (i : ℕ) → i < count → Numbered (get_or steps i blank).member

-- the next step, from the positions below k
unfoldable pub on_mask : List Members → List Step → ℕ → ℕ → maybe.Option Hop
on_mask adj steps mask zero = none
on_mask adj steps mask (suc k) =
    or_else (not (eqb (free_mask (set_in adj (walked_at steps k - 1)) mask) 0))
    (some (record { at = suc (count_trailing_zeros 32 (free_mask (set_in adj (walked_at steps k - 1)) mask)); from = k }))
    (on_mask adj steps mask k)

unfoldable pub step_of : maybe.Option Hop → Option Step
step_of none = None
step_of (some s) = Some (record { member = member s.at; from = s.from })

-- what the array says of the walk t
pub record Holds (t : List Hop) (steps : List Step) (count mask : ℕ) : Type 0 where
  pub counted : count ≡ suc (length t)
  pub members : (i : ℕ) → i ≤ length t → walked_at steps i ≡ at_pos t i
  pub froms : (i : ℕ) → i ≤ length t → walked_from steps i ≡ from_pos t i
  pub seen : (v : ℕ) → holds mask v ≡ reached t (suc v)
  pub fits : mask < 2 ^ 32

-- for every market that the sets are of, the array holds its whole walk
abbrev pub WalkOf : List Members → List Step → ℕ → ℕ → Type 0
WalkOf adj steps count mask = (ls : List Link) (n : ℕ) → Adj ls n adj → Holds (hops ls (suc n) (suc n)) steps count mask

-- x at every place from n on
abbrev pub Blank : {A : Type 0} → A → ℕ → List A → Type 0
Blank x n l = (i : ℕ) → n ≤ i → get_or l i x ≡ x
