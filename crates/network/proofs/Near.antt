-- The members' neighbours as masks, link by link; and what the walk over them reaches: exactly the members joined to member 1.
-- Assumes nothing.
use mathlib.Core.Path.{◌≡◌}
use mathlib.Core.Bool.{true, false, ◌&&◌, ◌||◌}
use mathlib.Core.List.{List, [], ◌∷◌}
use Prim.Native.Nat.{ℕ, suc, ◌+◌, ◌-◌, ◌^◌, ◌≤◌, ◌<◌}
use native.Mathlib.Nat.{le_trans}
use native.Mathlib.Omega.{arith}
use lib.ListN.{length, set, replicate}
use lib.Dec.{eqb}
use Rattle.std.proofs.lemmas.Bool.{false_from_ne_true}
use Rattle.std.proofs.lemmas.Grind.{common_steps}
use Rattle.std.proofs.lemmas.Nat.Bits.{bit_at-lt}
use Rattle.network.specs.inner.Sets.{holds, set_in, Lowest}
use Rattle.network.specs.inner.Walks.{mark, add_masks, Masks, Adj, WalkOf, Blank}
use Rattle.network.proofs.Bit.{holds_or, holds_one, holds_none, small_set}
use Rattle.network.specs.declared.bits.Members.{Members}
use Rattle.network.specs.declared.walk.Step.{Step}
use Rattle.problem.specs.Problem.{Link, neighbours, joined}
use Rattle.problem.proofs.Tree.{Within}
use Rattle.problem.proofs.Joins.{joined_is}
use Rattle.problem.proofs.Steps.{hops, reached, reached_pos, at_in, walk_visits, walk_walked}

-- the neighbours of all the links are those of the masks so far and those of the links that are left
pub record Near (whole : List Link) (adj : List Members) (left : List Link) : Type 0 where
  pub near : (v w : ℕ) → v < 32 → neighbours whole (suc v) (suc w) ≡ (holds (set_in adj v) w || neighbours left (suc v) (suc w))

mark_holds : (adj : List Members) (i x v w : ℕ) → i < length adj → holds (set_in (mark adj i x) v) w ≡ (holds (set_in adj v) w || (eqb v i && eqb w x))
mark_holds adj i x v w l = grind (arith, common_steps, holds_or, holds_one)

pub near_none : (ls : List Link) (adj : List Members) → ((v : ℕ) → v < 32 → set_in adj v ≡ 0) → Near ls adj ls
near_none ls adj z = record { near = λ v w l. grind (arith, z v l, holds_none w) }

-- one link more; its ends are numbered from 1
pub near_link : (adj : List Members) (l : Link) → 1 ≤ l.a → 1 ≤ l.b → l.a ≤ length adj → l.b ≤ length adj → (whole left : List Link) → Near whole adj (l ∷ left)
    → Near whole (add_masks adj (l.a - 1) (l.b - 1)) left
near_link adj l pa pb la lb whole left N = record {
  near = λ v w lv.
      grind (arith, common_steps, N.near v w lv, mark_holds (mark adj (l.a - 1) (l.b - 1)) (l.b - 1) (l.a - 1) v w, mark_holds adj (l.a - 1) (l.b - 1) v w);
}

pub near_done : (ls : List Link) (adj : List Members) → Near ls adj [] → Masks adj ls
near_done ls adj N v w l = grind (arith, N.near v w l)

pub adj_of : (ls : List Link) (n : ℕ) (adj : List Members) → 1 ≤ n → n ≤ 32 → Within n ls → Masks adj ls → Adj ls n adj
adj_of ls n adj p l w M = record { some_member = p; few = l; within = w; masks = λ u v h. M u v (le_trans h l) }

-- ---- the members that the walk reaches

module _ (ls : List Link) (n : ℕ) (adj : List Members) (steps : List Step) (count mask : ℕ) (A : Adj ls n adj) (W : WalkOf adj steps count mask) where
  -- they are the members joined to member 1
  reached_joined : (k : ℕ) → holds mask k ≡ joined ls 1 (suc k)
  reached_joined k =
      let v = walk_visits ls n A.some_member A.within (suc k) in
      let j = joined_is ls 1 (suc k) in
      grind (arith, (W ls n A).seen k, v.0, v.1, j.0, j.1)

  -- no member after the last one
  pub reached_small : mask < 2 ^ n
  unfolding holds
  reached_small =
      let t = hops ls (suc n) (suc n) in
      small_set n mask
      (λ k l. grind (
        arith,
        (W ls n A).seen k,
        bit_at-lt mask k,
        false_from_ne_true (reached t (suc k))
            (λ e. let p = reached_pos t (suc k) e in omega (arith, (at_in ls n A.some_member A.within t (walk_walked ls (suc n) (suc n)) p.0).1, p.2)),
      ))

  -- r is the lowest missing: every lower one is joined to member 1, and r is not, unless all are
  module _ (r : ℕ) (L : Lowest mask n r) where
    pub all_joined : (k : ℕ) → k < r → joined ls 1 (suc k) ≡ true
    unfolding holds
    all_joined k l = grind (arith, reached_joined k, L.held k l)

    pub not_joined : r < n → joined ls 1 (suc r) ≡ false
    unfolding holds
    not_joined l = grind (arith, reached_joined r, L.missing l)

-- ---- an array filled place by place
pub blank_none : {A : Type 0} (x : A) (k n : ℕ) → Blank x n (replicate k x)
blank_none x k n i h = grind (arith, common_steps)

pub blank_set : {A : Type 0} (x : A) (l : List A) (n : ℕ) (y : A) → Blank x n l → Blank x (n + 1) (set l n y)
blank_set x l n y B i h = grind (arith, common_steps, B i)
