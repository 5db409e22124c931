-- The steps that the walk leaves are those of the market on its tree; or a member is not reached, and that is refusal 10.
-- Assumes nothing.
use mathlib.Core.Path.{◌≡◌, sym, ap, ap₂, ◌∙◌}
use mathlib.Core.Bool.{not}
use mathlib.Core.List.{List, []}
use mathlib.Core.Option.{none, some}
use Prim.Native.Nat.{ℕ, suc, ◌+◌, ◌^◌, ◌≤◌, ◌<◌}
use native.Mathlib.Omega.{arith}
use lib.IntN.{pos}
use lib.ListN.{length}
use Rattle.numbers.specs.declared.Units.{Units}
use Rattle.numbers.specs.inner.Held.{member, units}
use Rattle.problem.specs.Problem.{Link, joined, walk}
use Rattle.problem.proofs.Tree.{Within, Open, Tree}
use Rattle.problem.proofs.Steps.{walk_walked}
use Rattle.problem.proofs.Arrange.{stops}
use Rattle.problem.proofs.Arrange as arrange
use Rattle.network.specs.declared.Position.{Position}
use Rattle.network.specs.declared.bits.Members.{Members}
use Rattle.network.specs.declared.walk.Step.{Step}
use Rattle.network.specs.inner.Positions.{no_position, position_at}
use Rattle.network.specs.inner.Sets.{Lowest}
use Rattle.network.specs.inner.Walks.{Masks, Adj, Holds, WalkOf, walked_at, walked_from}
use Rattle.network.proofs.Near.{adj_of, reached_small, all_joined, not_joined}
use Rattle.market.specs.Refusals.{apart}
use Rattle.market.specs.inner.Feeders.{reached_at, reached_from, position_of, capacity_of, laid_at, PositionsOf, step_at}
use Rattle.market.specs.inner.Lines.{market_on}
use Rattle.market.proofs.Passes.{member_hit, member_none}
use Rattle.market.proofs.Trees.{tree_of, from_le, full, member_at_lem, from_at, parent_at_lem, capacity_back}

-- the position that a step makes, with the capacity of its link
pub step_made : (ls : List Link) (steps : List Step) (i k : ℕ) (most : Units) → k ≡ walked_from steps i → most ≡ units (pos (capacity_of ls (walked_at steps i) (walked_at steps k)))
    → record { member = member (walked_at steps i); parent = walked_from steps i; toward = most; away = most } ≡ step_at ls steps i
unfolding step_at
step_made ls steps i k most e q =
    ap (λ (u : Units). record { member = member (walked_at steps i); parent = walked_from steps i; toward = u; away = u })
    (q ∙ ap (λ (j : ℕ). units (pos (capacity_of ls (walked_at steps i) (walked_at steps j)))) e)

module _ (n : ℕ) (ls : List Link) (p : 1 ≤ n) (few : n ≤ 32) (w : Within n ls) (adj : List Members) (steps : List Step) (count mask : ℕ) (M : Masks adj ls)
    (W : WalkOf adj steps count mask) where
  A : Adj ls n adj
  A = adj_of ls n adj p few w M

  pub mask_small : mask < 2 ^ n
  mask_small = reached_small ls n adj steps count mask A W

  -- r is the lowest member not reached, counted from 0
  module _ (r : ℕ) (L : Lowest mask n r) where
    pub apart_some : r < n → apart (market_on n ls) ≡ some (r + 1)
    unfolding apart
    apart_some l =
        member_hit (λ j. not (joined ls 1 j)) n r (λ k lk. ap not (all_joined ls n adj steps count mask A W r L k lk)) l
        (ap not (not_joined ls n adj steps count mask A W r L l))

    pub apart_none : n ≤ r → apart (market_on n ls) ≡ none
    unfolding apart
    apart_none l = member_none (λ j. not (joined ls 1 j)) n r (λ k lk. ap not (all_joined ls n adj steps count mask A W r L k lk)) l

    pub tree_none : n ≤ r → Open [] ls → Tree (market_on n ls)
    tree_none l o = tree_of (market_on n ls) p w o (apart_none l)

  -- all are reached
  module _ (R : Tree (market_on n ls)) where
    H : Holds (stops (market_on n ls)) steps count mask
    H = W ls n A

    reaches : (i : ℕ) → i < n → i ≤ length (stops (market_on n ls))
    reaches i l = omega (arith, full (market_on n ls) R)

    at : (i : ℕ) → i < n → walked_at steps i ≡ reached_at (walk (market_on n ls)) i
    at i l = H.members i (reaches i l) ∙ sym (member_at_lem (market_on n ls) R i)

    from_small : (i : ℕ) → i < n → walked_from steps i ≤ i
    from_small i l = omega (arith, H.froms i (reaches i l), from_le ls (suc n) (stops (market_on n ls)) (walk_walked ls (suc n) (suc n)) i)

    pub from_in : (i : ℕ) → i < n → walked_from steps i < 32
    from_in i l = omega (arith, from_small i l)

    came : (i : ℕ) → i < n → walked_at steps (walked_from steps i) ≡ reached_from (walk (market_on n ls)) i
    came i l =
        H.members (walked_from steps i) (reaches (walked_from steps i) (omega (arith, from_small i l))) ∙ ap (arrange.member (market_on n ls)) (H.froms i (reaches i l))
        ∙ sym (from_at (market_on n ls) R i l)

    step_is : (i : ℕ) → i < n → step_at ls steps i ≡ laid_at (market_on n ls) i
    unfolding step_at laid_at
    step_is i l =
        let seen = walk (market_on n ls) in
        let most : capacity_of ls (walked_at steps i) (walked_at steps (walked_from steps i)) ≡ capacity_of ls (reached_at seen i) (reached_from seen i) =
        ap₂ (capacity_of ls) (at i l) (came i l) in
        ap₂ {C = Position} (λ (v k : ℕ). let c = units (pos (capacity_of ls (walked_at steps i) (walked_at steps (walked_from steps i)))) in
        record { member = member v; parent = k; toward = c; away = c }) (at i l) (H.froms i (reaches i l) ∙ sym (parent_at_lem (market_on n ls) R i l))
        ∙ ap₂ {C = Position} (λ (t b : ℕ). record { member = member (reached_at seen i); parent = position_of seen (reached_from seen i); toward = units (pos t); away = units (pos b) })
        most (most ∙ capacity_back ls (reached_at seen i) (reached_from seen i))

    pub steps_laid : (ps : List Position) → ((i : ℕ) → i < n → position_at ps i ≡ step_at ls steps i) → ((i : ℕ) → n ≤ i → position_at ps i ≡ no_position)
        → PositionsOf (market_on n ls) ps
    steps_laid ps at past = record { at = λ i l. at i l ∙ step_is i l; past = past }
