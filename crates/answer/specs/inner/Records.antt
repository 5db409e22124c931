-- The records of an allocation x: its members' and its links'.
use Rattle.std.specs.Prelude.{Bool, true, false, cond, Option, Some, None, List, [], ℕ, eqb, ltb, ℤ, neg_ℤ}
use Rattle.engine.specs.inner.Words.{net_in, sent_in}
use Rattle.problem.specs.Problem.{value}
use Rattle.network.specs.inner.Feeders.{parent_at, toward_at}
use Rattle.records.specs.Records.{entries}
use Rattle.records.specs.Market.{offers_of}
use Rattle.records.specs.Answer.{or_zero, each, member_bytes, link_record}
use Rattle.answer.specs.inner.Words.{position_in}
use Rattle.answer.specs.declared.allocation.Allocation.{Allocation}
use Rattle.answer.specs.declared.links.Joint.{Joint}

-- the position of member j, and the one that it was reached from
abbrev pub place_of : Allocation → ℕ → ℕ
place_of x j = position_in x.position_of j

abbrev pub parent_of : Allocation → ℕ → ℕ
parent_of x j = parent_at x.feeder.now (place_of x j)

-- the link between a and b, a the lower: the position that was reached over it, and whether that is a's
unfoldable pub joint_of : Allocation → (a b : ℕ) → Option Joint
joint_of x a b =
    cond (ltb a b)
    (cond (eqb (parent_of x b) (place_of x a)) (Some (record { reached = place_of x b; lower = false }))
    (cond (eqb (parent_of x a) (place_of x b)) (Some (record { reached = place_of x a; lower = true })) None))
    None

-- what flows from the lower member to the higher one, where one of them sends y toward member 1
unfoldable pub from_lower : Bool → ℤ → ℤ
from_lower lower y = cond lower y (neg_ℤ y)

unfoldable pub joint_bytes : Allocation → ℕ → ℕ → Option Joint → List ℕ
joint_bytes x a b (Some j) = link_record (record { a = a; b = b; capacity = toward_at x.feeder.now j.reached }) (from_lower j.lower (sent_in x.trades.now j.reached))
joint_bytes x a b None = []

-- the record of the link from a to b, if there is one; those of a's links to higher members; and those of all links
unfoldable pub link_by : Allocation → (a b : ℕ) → List ℕ
link_by x a b = joint_bytes x a b (joint_of x a b)

abbrev pub links_of : Allocation → (a : ℕ) → List ℕ
links_of x a = each x.feeder.now.members (link_by x a)

abbrev pub links_by : Allocation → List ℕ
links_by x = each x.feeder.now.members (links_of x)

-- member j's record, and those of all members
unfoldable pub member_by : (records : List ℕ) → Allocation → ℕ → List ℕ
member_by records x j =
    let u : ℤ = net_in x.trades.now (place_of x j) in
    member_bytes j u (or_zero (value (offers_of (entries records)) j u))

abbrev pub members_by : (records : List ℕ) → Allocation → List ℕ
members_by records x = each x.feeder.now.members (member_by records x)
