-- The walk over sets: what the code computes, and that it is the walk. Assumes nothing.
use mathlib.Core.Path.{◌≡◌, refl, sym, ap, ◌∙◌}
use mathlib.Core.Bool.{true, false, not}
use mathlib.Core.List.{List, ◌∷◌}
use mathlib.Core.Option.{Option, none, some}
use Prim.Native.Nat.{ℕ, zero, suc, ◌+◌, ◌-◌, ◌^◌, ◌≤◌, ◌<◌}
use native.Mathlib.Nat.{le_refl, lt_of_le_of_lt}
use native.Mathlib.Omega.{arith}
use lib.ListN.{length, set}
use Rattle.std.proofs.lemmas.Grind.{common_steps}
use lib.Dec.{ltb, lit<}
use lib.Bits.{bit_or, and_le_r, or_lt}
use lib.Pow.{ones_sub-lt, pow-lt}
use lib.Count.{count_trailing_zeros}
use Rattle.network.specs.inner.Sets.{holds, set_in}
use Rattle.network.specs.inner.Walks.{free_mask, walked_at, walked_from, on_mask, Adj, Holds, WalkOf}
use Rattle.network.proofs.Bit.{holds_and, holds_or, holds_not, holds_one, holds_none, trailing_holds, trailing_clear, trailing_inside}
use Rattle.network.specs.declared.bits.Members.{Members}
use Rattle.network.specs.declared.walk.Step.{Step}
use Rattle.problem.specs.Problem.{Link, neighbours, lowest}
use Rattle.problem.proofs.Tree.{Within}
use Rattle.problem.proofs.Count.{lowest_is, lowest_hit}
use Rattle.std.proofs.lemmas.Bool.{and_parts}
use Rattle.problem.proofs.Links.{neighbours_in}
use Rattle.problem.proofs.Steps.{Hop, Walked, at_pos, at_before, at_latest, at_in, walk_room, reached, free, on_from, hops, walk_walked, Finished, on_fresh}
use Rattle.problem.proofs.Places.{from_before, from_latest}
use Rattle.problem.proofs.Branch.{walk_more, walk_stays}

-- one set: its lowest member is the lowest free neighbour
module _ (ls : List Link) (n : ℕ) (adj : List Members) (A : Adj ls n adj) (t : List Hop) (steps : List Step) (count mask : ℕ) (H : Holds t steps count mask) where
  mask_free : (v w : ℕ) → v < n → w < 32 → holds (free_mask (set_in adj v) mask) w ≡ free ls t (suc v) (suc w)
  mask_free v w l lw = grind (arith, holds_and (set_in adj v) ((2 ^ 32 - 1) - mask) w, A.masks v w l, holds_not 32 mask w H.fits lw, H.seen w)

  mask_lt : (v : ℕ) → free_mask (set_in adj v) mask < 2 ^ 32
  mask_lt v = lt_of_le_of_lt (and_le_r (set_in adj v) ((2 ^ 32 - 1) - mask)) (ones_sub-lt 32 mask)

  free_in : (v w : ℕ) → free ls t v w ≡ true → (1 ≤ w) × (w ≤ n)
  free_in v w h = neighbours_in n ls A.within v w (and_parts (neighbours ls v w) (not (reached t w)) h).0

  -- member w is free nowhere in an empty set
  no_free : (v w : ℕ) → v < n → free_mask (set_in adj v) mask ≡ 0 → free ls t (suc v) w ≡ true → ⊥
  no_free v w l e h = let b = free_in (suc v) w h in grind (arith, A.few, mask_free v (w - 1) l, holds_none (w - 1))

  none_free : (v : ℕ) → v < n → free_mask (set_in adj v) mask ≡ 0 → ltb (lowest (free ls t (suc v)) (suc n)) (suc n) ≡ false
  none_free v l e = grind (arith, lowest_hit (free ls t (suc v)) (suc n), no_free v (lowest (free ls t (suc v)) (suc n)) l e)

  some_free : (v : ℕ) → v < n → (free_mask (set_in adj v) mask ≡ 0 → ⊥)
      → (suc (count_trailing_zeros 32 (free_mask (set_in adj v) mask)) < suc n) × (lowest (free ls t (suc v)) (suc n) ≡ suc (count_trailing_zeros 32 (free_mask (set_in adj v) mask)))
  some_free v l d =
      let m = free_mask (set_in adj v) mask in
      let x = count_trailing_zeros 32 m in
      let lx : x < 32 = trailing_inside 32 m (mask_lt v) d in
      let hit : free ls t (suc v) (suc x) ≡ true = sym (mask_free v x l lx) ∙ trailing_holds 32 m lx in
      let ln : suc x < suc n = omega (arith, (free_in (suc v) (suc x) hit).1) in
      (ln, lowest_is (free ls t (suc v)) (suc n) (suc x) ln hit (λ k lk. below k lk lx))
    where
      below : (k : ℕ) → k < suc (count_trailing_zeros 32 (free_mask (set_in adj v) mask)) → count_trailing_zeros 32 (free_mask (set_in adj v) mask) < 32 → free ls t (suc v) k ≡ false
      below zero lk lx = grind (arith, free_in (suc v) 0)
      below (suc k) lk lx = sym (mask_free v k l (omega arith)) ∙ trailing_clear 32 (free_mask (set_in adj v) mask) k (omega arith)

  -- so the search over sets is the walk's search
  pub on_mask_lem : (k : ℕ) → k ≤ count → ((i : ℕ) → i ≤ length t → (1 ≤ walked_at steps i) × (walked_at steps i ≤ n)) → on_mask adj steps mask k ≡ on_from ls (suc n) t k
  unfolding on_mask on_from
  on_mask_lem zero h b = refl
  on_mask_lem (suc k) h b =
      let v : ℕ = walked_at steps k - 1 in
      let lk : k ≤ length t = omega (arith, H.counted) in
      let at : at_pos t k ≡ suc v = omega (arith, b k lk, H.members k lk) in
      let in_n : v < n = omega (arith, b k lk) in
      rw at (grind (arith, on_mask_lem k (omega arith) b, none_free v in_n, some_free v in_n))

-- ---- the code's search

pub on_hit : (adj : List Members) (steps : List Step) (mask k : ℕ) → (free_mask (set_in adj (walked_at steps k - 1)) mask ≡ 0 → ⊥)
    → on_mask adj steps mask (suc k) ≡ some (record { at = suc (count_trailing_zeros 32 (free_mask (set_in adj (walked_at steps k - 1)) mask)); from = k })
unfolding on_mask
on_hit adj steps mask k e = grind arith

pub on_miss : (adj : List Members) (steps : List Step) (mask k : ℕ) → free_mask (set_in adj (walked_at steps k - 1)) mask ≡ 0 → on_mask adj steps mask (suc k) ≡ on_mask adj steps mask k
unfolding on_mask
on_miss adj steps mask k e = grind arith

pub on_lt : (adj : List Members) (steps : List Step) (mask k : ℕ) (s : Hop) → on_mask adj steps mask k ≡ some s → (1 ≤ s.at) × (s.at ≤ 32) × (s.from < k)
unfolding on_mask
on_lt adj steps mask zero s e = cc
on_lt adj steps mask (suc k) s e =
    let m : ℕ = free_mask (set_in adj (walked_at steps k - 1)) mask in
    grind (arith, on_lt adj steps mask k s, trailing_inside 32 m (lt_of_le_of_lt (and_le_r (set_in adj (walked_at steps k - 1)) ((2 ^ 32 - 1) - mask)) (ones_sub-lt 32 mask)))

-- ---- one step more in the array

abbrev pub hop : Step → Hop
hop w = record { at = w.member.0; from = w.from }

pub holds_step : (t : List Hop) (steps : List Step) (count mask : ℕ) (w : Step) → Holds t steps count mask → count < length steps
    → 1 ≤ w.member.0 → w.member.0 ≤ 32 → Holds (hop w ∷ t) (set steps count w) (count + 1) (bit_or mask (2 ^ (w.member.0 - 1)))
holds_step t steps count mask w H len lo l = record {
  counted = omega (arith, H.counted);
  members = λ i h. grind (arith, common_steps, at_latest (hop w ∷ t), at_before (hop w) t i, H.members i, H.counted);
  froms = λ i h. grind (arith, common_steps, from_latest (hop w) t, from_before (hop w) t i, H.froms i, H.counted);
  seen = λ v. grind (arith, holds_or mask (2 ^ (w.member.0 - 1)) v, H.seen v, holds_one (w.member.0 - 1) v);
  fits = or_lt 32 mask (2 ^ (w.member.0 - 1)) H.fits (pow-lt {i = w.member.0 - 1} {j = 32} (omega arith));
}

-- ---- the loop of the walk: for every market that the sets are of, the array holds the walk so far
abbrev pub Walking : List Members → List Step → ℕ → ℕ → Type 0
Walking adj steps count mask = (ls : List Link) (n : ℕ) → Adj ls n adj → (j : ℕ) → count ≡ suc j → Holds (hops ls (suc n) j) steps count mask

pub walking_none : (adj : List Members) (steps : List Step) → walked_at steps 0 ≡ 1 → walked_from steps 0 ≡ 0 → Walking adj steps 1 1
unfolding hops
walking_none adj steps p q ls n A zero e =
    record { counted = refl; members = λ i h. grind (arith, p); froms = λ i h. grind (arith, q); seen = λ v. grind (arith, holds_one 0 v); fits = lit< tt }
walking_none adj steps p q ls n A (suc j) e = absurd (omega (arith, e))

-- the code's next step is the walk's
next_is : (ls : List Link) (n : ℕ) (adj : List Members) → Adj ls n adj → (j : ℕ) (steps : List Step) (count mask : ℕ) → Holds (hops ls (suc n) j) steps count mask
    → on_mask adj steps mask count ≡ on_from ls (suc n) (hops ls (suc n) j) (suc (length (hops ls (suc n) j)))
next_is ls n adj A j steps count mask H =
    on_mask_lem ls n adj A (hops ls (suc n) j) steps count mask H count (le_refl count) known ∙ ap (on_from ls (suc n) (hops ls (suc n) j)) H.counted
  where
    known : (i : ℕ) → i ≤ length (hops ls (suc n) j) → (1 ≤ walked_at steps i) × (walked_at steps i ≤ n)
    known i l = let a = at_in ls n A.some_member A.within (hops ls (suc n) j) (walk_walked ls (suc n) j) i in rw (H.members i l) a

pub walking_more : (adj : List Members) (steps : List Step) (count mask : ℕ) (w : Step) → count < length steps → on_mask adj steps mask count ≡ some (hop w)
    → Walking adj steps count mask → Walking adj (set steps count w) (count + 1) (bit_or mask (2 ^ (w.member.0 - 1)))
walking_more adj steps count mask w len e W ls n A zero q = absurd (omega (arith, (on_lt adj steps mask count (hop w) e).2))
walking_more adj steps count mask w len e W ls n A (suc j) q =
    let H = W ls n A j (omega arith) in
    let b = on_lt adj steps mask count (hop w) e in
    rw (walk_more ls (suc n) j (hop w) (sym (next_is ls n adj A j steps count mask H) ∙ e)) (holds_step (hops ls (suc n) j) steps count mask w H len b.0 b.1)

-- ---- the end: no next stop, or no room for one

-- a walk of n positions is finished
full_finished : (ls : List Link) (n : ℕ) → 1 ≤ n → Within n ls → (t : List Hop) → Walked ls (suc n) t → suc (length t) ≡ n → Finished ls (suc n) t
full_finished ls n p w t h e = go (on_from ls (suc n) t (suc (length t))) refl
  where
    go : (o : Option Hop) → on_from ls (suc n) t (suc (length t)) ≡ o → on_from ls (suc n) t (suc (length t)) ≡ none
    go none q = q
    go (some s) q =
        let f = on_fresh ls (suc n) t (suc (length t)) (le_refl _) s q in
        absurd (omega (arith, walk_room ls n p w (s ∷ t) (f.0, f.1, f.2, f.3, h)))

-- a finished walk is the whole walk
whole : (ls : List Link) (n : ℕ) (adj : List Members) → Adj ls n adj → (j : ℕ) (steps : List Step) (count mask : ℕ) → Holds (hops ls (suc n) j) steps count mask → count ≡ suc j
    → Finished ls (suc n) (hops ls (suc n) j) → Holds (hops ls (suc n) (suc n)) steps count mask
whole ls n adj A j steps count mask H e f =
    let room = walk_room ls n A.some_member A.within (hops ls (suc n) j) (walk_walked ls (suc n) j) in
    let more : suc n ≡ suc n - j + j = omega (arith, room, H.counted) in
    rw (ap (hops ls (suc n)) more ∙ walk_stays ls (suc n) j (suc n - j) f) H

pub walking_done : (adj : List Members) (steps : List Step) (count mask : ℕ) → 0 < count → on_mask adj steps mask count ≡ none → Walking adj steps count mask → WalkOf adj steps count mask
walking_done adj steps count mask p e W ls n A =
    let j : ℕ = count - 1 in
    let c : count ≡ suc j = omega arith in
    let H : Holds (hops ls (suc n) j) steps count mask = W ls n A j c in
    whole ls n adj A j steps count mask H c (sym (next_is ls n adj A j steps count mask H) ∙ e)

pub walking_full : (adj : List Members) (steps : List Step) (count mask : ℕ) → 32 ≤ count → Walking adj steps count mask → WalkOf adj steps count mask
walking_full adj steps count mask p W ls n A =
    let j : ℕ = count - 1 in
    let c : count ≡ suc j = omega arith in
    let H : Holds (hops ls (suc n) j) steps count mask = W ls n A j c in
    let ok = walk_walked ls (suc n) j in
    let room = walk_room ls n A.some_member A.within (hops ls (suc n) j) ok in
    whole ls n adj A j steps count mask H c (full_finished ls n A.some_member A.within (hops ls (suc n) j) ok (omega (arith, A.few, H.counted, room)))
