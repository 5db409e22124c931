-- What refusals 9 and 10 leave is a market on a tree; its walk by members is its walk by positions. Assumes nothing.
use Rattle.std.proofs.Math.Bool.{or_comm}
use mathlib.Core.Path.{◌≡◌, refl, sym, ap, ap₂, ◌∙◌}
use mathlib.Core.Logic.{◌⊎◌, inl, inr}
use mathlib.Core.Bool.{Bool, true, false, cond, not, ◌&&◌}
use mathlib.Core.List.{List, [], ◌∷◌}
use mathlib.Core.Option.{none}
use Prim.Native.Nat.{ℕ, zero, suc, ◌≤◌, ◌<◌}
use native.Mathlib.Nat.{not-suc-le-zero}
use native.Mathlib.Omega.{arith}
use lib.Dec.{eqb, ltb}
use lib.ListN.{length}
use borrow.Author.Tests.{eq-eqb, ne_eqb, ltb-false, not-false}
use Rattle.problem.specs.Problem.{Link, Market, Stop, joins, joined, lowest, walk}
use Rattle.problem.proofs.Tree.{Joined, Open, Within, Tree}
use Rattle.problem.proofs.Joins.{joined_is}
use Rattle.problem.proofs.Max.{pick}
use Rattle.problem.proofs.Count.{same?, lowest_below, lowest_is}
use Rattle.problem.proofs.Steps.{Hop, Walked, at_pos, at_before, walk_walked, walk_all, pos_one}
use Rattle.problem.proofs.Places.{from_pos, from_first, from_before, from_latest, from_lt}
use Rattle.problem.proofs.Branch.{names, walk_names}
use Rattle.problem.proofs.Arrange.{link_at, place_of, stops, member, parent, link_of}
use Rattle.records.specs.Refusals.{place_if}
use Rattle.market.specs.Refusals.{lowest_member, apart}
use Rattle.market.specs.inner.Feeders.{reached_at, reached_from, position_of, capacity_of}

-- ---- the market is on a tree

no_place : (b : Bool) (x : ℕ) → place_if b x ≡ none → b ≡ false
unfolding place_if
no_place true x e = cc (e)
no_place false x e = refl

none_lowest : (p : ℕ → Bool) (n : ℕ) → lowest_member p n ≡ none → (k : ℕ) → k < n → p (suc k) ≡ false
unfolding lowest_member
none_lowest p n e k l =
    lowest_below (λ i. p (suc i)) n k
    (omega (arith, ltb-false (lowest (λ i. p (suc i)) n) n (no_place (ltb (lowest (λ i. p (suc i)) n) n) (suc (lowest (λ i. p (suc i)) n)) e)))

-- no member is apart: all are joined to member 1
all_joined : (m : Market) → apart m ≡ none → (v : ℕ) → 1 ≤ v → v ≤ m.members → Joined m.links 1 v
unfolding apart
all_joined m e zero p l = absurd (not-suc-le-zero p)
all_joined m e (suc k) p l =
    (joined_is m.links 1 (suc k)).0 (not-false (joined m.links 1 (suc k)) (none_lowest (λ j. not (joined m.links 1 j)) m.members e k l))

pub tree_of : (m : Market) → 1 ≤ m.members → Within m.members m.links → Open [] m.links → apart m ≡ none → Tree m
tree_of m p w o e = record { some_member = p; within = w; ringless = o; whole = all_joined m e }

-- ---- the walk by members and the walk by positions

length_names : (t : List Hop) → length (names t) ≡ length t
unfolding names
length_names [] = refl
length_names (s ∷ t) = ap suc (length_names t)

cond_pick : (b : Bool) (x y z : ℕ) → y ≡ z → cond b x y ≡ pick b x z
cond_pick true x y z e = refl
cond_pick false x y z e = e

member_names : (t : List Hop) (i : ℕ) → reached_at (names t) i ≡ at_pos t i
unfolding names reached_at
member_names [] i = refl
member_names (s ∷ t) i =
    ap (λ (k : ℕ). cond (eqb i (suc k)) s.at (reached_at (names t) i)) (length_names t)
    ∙ cond_pick (eqb i (suc (length t))) s.at (reached_at (names t) i) (at_pos t i) (member_names t i)

-- a position is reached from one that is no later
pub from_le : (ls : List Link) (n : ℕ) (t : List Hop) → Walked ls n t → (i : ℕ) → from_pos t i ≤ i
from_le ls n t w zero = omega (arith, from_first t)
from_le ls n t w (suc i) = omega (arith, from_lt ls n t w (suc i) (omega arith))

module _ (ls : List Link) (n : ℕ) where
  from_names : (t : List Hop) → Walked ls n t → (i : ℕ) → i ≤ length t → reached_from (names t) i ≡ at_pos t (from_pos t i)
  unfolding names reached_from
  from_names [] w i l = refl
  from_names (s ∷ t) w i l =
      ap (λ (k : ℕ). cond (eqb i (suc k)) (at_pos t s.from) (reached_from (names t) i)) (length_names t) ∙ go (same? i (suc (length t))) (from_names t w.4 i)
    where
      go : ((i ≡ suc (length t)) × (eqb i (suc (length t)) ≡ true)) ⊎ ((i ≡ suc (length t) → ⊥) × (eqb i (suc (length t)) ≡ false))
          → (i ≤ length t → reached_from (names t) i ≡ at_pos t (from_pos t i))
          → cond (eqb i (suc (length t))) (at_pos t s.from) (reached_from (names t) i) ≡ at_pos (s ∷ t) (from_pos (s ∷ t) i)
      go (inl e) ih =
          ap (λ (b : Bool). cond b (at_pos t s.from) (reached_from (names t) i)) e.1
          ∙ sym (ap (at_pos (s ∷ t)) (ap (from_pos (s ∷ t)) e.0 ∙ from_latest s t) ∙ at_before s t s.from w.2)
      go (inr e) ih =
          let h : i ≤ length t = omega (arith, e.0) in
          ap (λ (b : Bool). cond b (at_pos t s.from) (reached_from (names t) i)) e.1 ∙ ih h
          ∙ sym (ap (at_pos (s ∷ t)) (from_before s t i h) ∙ at_before s t (from_pos t i) (omega (arith, from_le ls n t w.4 i)))

  position_names : (t : List Hop) → Walked ls n t → (i : ℕ) → i ≤ length t → position_of (names t) (reached_from (names t) i) ≡ from_pos t i
  unfolding position_of
  position_names t w i l =
      let v = reached_from (names t) i in
      let at : v ≡ at_pos t (from_pos t i) = from_names t w i l in
      let lp : from_pos t i ≤ length t = omega (arith, from_le ls n t w i) in
      lowest_is (λ k. eqb (reached_at (names t) k) v) (suc (length (names t))) (from_pos t i) (omega (arith, length_names t))
      (eq-eqb (reached_at (names t) (from_pos t i)) v (member_names t (from_pos t i) ∙ sym at))
      (λ k lk. ne_eqb (reached_at (names t) k) v (λ q.
      let same : k ≡ from_pos t i = pos_one ls n t w k (from_pos t i) (omega arith) lp (sym (member_names t k) ∙ q ∙ at) in
      omega arith))

-- the capacity of the first link between u and v
pub capacity_place : (ls : List Link) (u v : ℕ) → capacity_of ls u v ≡ (link_at ls (place_of ls u v)).capacity
unfolding capacity_of place_of
capacity_place [] u v = refl
capacity_place (l ∷ ls) u v = go (joins l u v) (capacity_place ls u v)
  where
    go : (b : Bool) → capacity_of ls u v ≡ (link_at ls (place_of ls u v)).capacity
        → cond b l.capacity (capacity_of ls u v) ≡ (link_at (l ∷ ls) (pick b 0 (suc (place_of ls u v)))).capacity
    go true ih = refl
    go false ih = ih

-- a link carries as much one way as the other
pub capacity_back : (ls : List Link) (u v : ℕ) → capacity_of ls u v ≡ capacity_of ls v u
unfolding capacity_of
capacity_back [] u v = refl
capacity_back (l ∷ ls) u v =
    ap₂ (λ (b : Bool) (k : ℕ). cond b l.capacity k) (or_comm (eqb l.a u && eqb l.b v) (eqb l.a v && eqb l.b u)) (capacity_back ls u v)

-- ---- a market on a tree, by the positions of its walk
module _ (m : Market) (R : Tree m) where
  is : walk m ≡ names (stops m)
  is = walk_names m R.some_member

  ok : Walked m.links (suc m.members) (stops m)
  ok = walk_walked m.links (suc m.members) (suc m.members)

  -- a position for each member
  pub full : suc (length (stops m)) ≡ m.members
  full = walk_all m.links m.members R.some_member R.within R.whole

  pub member_at_lem : (i : ℕ) → reached_at (walk m) i ≡ member m i
  member_at_lem i = ap (λ (t : List Stop). reached_at t i) is ∙ member_names (stops m) i

  pub from_at : (i : ℕ) → i < m.members → reached_from (walk m) i ≡ member m (parent m i)
  from_at i l =
      ap (λ (t : List Stop). reached_from t i) is ∙ from_names m.links (suc m.members) (stops m) ok i (omega (arith, full))

  pub parent_at_lem : (i : ℕ) → i < m.members → position_of (walk m) (reached_from (walk m) i) ≡ parent m i
  parent_at_lem i l =
      ap (λ (t : List Stop). position_of t (reached_from t i)) is ∙ position_names m.links (suc m.members) (stops m) ok i (omega (arith, full))

  pub capacity_at : (i : ℕ) → i < m.members → capacity_of m.links (reached_at (walk m) i) (reached_from (walk m) i) ≡ (link_at m.links (link_of m i)).capacity
  capacity_at i l =
      ap₂ (capacity_of m.links) (member_at_lem i) (from_at i l) ∙ capacity_place m.links (member m i) (member m (parent m i))
