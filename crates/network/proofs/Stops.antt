-- The steps of the walk, in the code's terms. Assumes nothing.
use mathlib.Core.Path.{◌≡◌, refl, ap, ◌∙◌}
use mathlib.Core.List.{List}
use mathlib.Core.Option.{none, some}
use mathlib.Core.Option as maybe
use Prim.Native.Nat.{ℕ, zero, suc, ◌+◌, ◌-◌, ◌^◌, ◌≤◌, ◌<◌}
use native.Mathlib.Omega.{arith}
use lib.ListN.{length, set, take, replicate}
use Rattle.std.proofs.lemmas.List.{get_or-take, length-take-le}
use lib.Bits.{bit_or}
use lib.Count.{count_trailing_zeros}
use Rattle.std.specs.Prelude.{Option, Some, None}
use Rattle.numbers.specs.declared.Member.{Member}
use Rattle.numbers.specs.inner.Held.{member}
use Rattle.problem.proofs.Steps.{Hop}
use Rattle.network.specs.declared.bits.Members.{Members}
use Rattle.network.specs.declared.walk.Step.{Step}
use Rattle.std.proofs.lemmas.Grind.{common_steps}
use Rattle.network.specs.inner.Sets.{Numbered, index, set_in}
use Rattle.network.specs.inner.Walks.{free_mask, blank, walked_at, Known, on_mask, step_of, WalkOf, Blank}
use Rattle.network.proofs.Near.{blank_none, blank_set}
use Rattle.network.proofs.Order.{hop, on_hit, on_miss, on_lt, Walking, walking_none, walking_more, walking_done, walking_full}

-- ---- the search for the next step, at the position below k; free are the neighbours there that are not reached

module _ (adj : List Members) (steps : List Step) (mask count k : ℕ) (so : on_mask adj steps mask count ≡ on_mask adj steps mask k) where
  module _ (p : 0 < k) (v free : ℕ) (i : v ≡ walked_at steps (k - 1) - 1) (f : free ≡ free_mask (set_in adj v) mask) where
    here : on_mask adj steps mask count ≡ on_mask adj steps mask (suc (k - 1))
    here = so ∙ ap (on_mask adj steps mask) (omega arith)

    pub next_found : (free ≡ 0 → ⊥) → (w : Member) → w.0 ≡ count_trailing_zeros 32 free + 1 → Some (record { member = w; from = k - 1 }) ≡ step_of (on_mask adj steps mask count)
    unfolding step_of
    next_found d w q = grind (arith, here, on_hit adj steps mask (k - 1))

    pub none_here : free ≡ 0 → on_mask adj steps mask count ≡ on_mask adj steps mask (k - 1)
    none_here d = grind (arith, here, on_miss adj steps mask (k - 1))

  pub none_found : k ≤ 0 → None ≡ step_of (on_mask adj steps mask count)
  unfolding step_of on_mask
  none_found h = let none_left : k ≡ 0 = omega arith in grind (arith, so, ap (on_mask adj steps mask) none_left)

-- ---- what an answer says

to_step : (o : maybe.Option Hop) (w : Step) → Some w ≡ step_of o → o ≡ some (hop w)
unfolding step_of
to_step o w e = grind arith

to_none : (o : maybe.Option Hop) → None ≡ step_of o → o ≡ none
unfolding step_of
to_none o e = grind arith

-- the search through the positions below count needs no more of the array than those
on_take : (adj : List Members) (steps : List Step) (mask count k : ℕ) → k ≤ count → on_mask adj (take count steps) mask k ≡ on_mask adj steps mask k
unfolding on_mask
on_take adj steps mask count zero h = refl
on_take adj steps mask count (suc k) h = grind (arith, get_or-take count steps k blank, on_take adj steps mask count k)

-- ---- the members reached are those that a set can have

pub known_start : (steps : List Step) → walked_at steps 0 ≡ 1 → Known steps 1
known_start steps e i l = let first : walked_at steps i ≡ 1 = ap (walked_at steps) (omega arith) ∙ e in (omega (arith, first), omega (arith, first))

pub known_more : (steps : List Step) (count : ℕ) (w : Step) → count < length steps → Numbered w.member → Known steps count → Known (set steps count w) (count + 1)
known_more steps count w l b K i h = grind (arith, common_steps, b, K i)

-- ---- the loop of the walk: the array holds the walk so far, of members that a set can have, and nothing after it
pub record Walks (adj : List Members) (steps : List Step) (count mask : ℕ) : Type 0 where
  pub known : Known steps count
  pub walking : Walking adj steps count mask
  pub rest : Blank blank count steps

pub walks_none : (adj : List Members) (mask : ℕ) → mask ≡ 1 → Walks adj (set (replicate 32 blank) 0 (record { member = member 1; from = 0 })) 1 mask
walks_none adj mask e =
    let first : Step = record { member = member 1; from = 0 } in
    record {
      known = known_start (set (replicate 32 blank) 0 first) refl;
      walking = rw e (walking_none adj (set (replicate 32 blank) 0 first) refl refl);
      rest = blank_set blank (replicate 32 blank) 0 first (blank_none blank 32 0);
    }

module _ (adj : List Members) (steps : List Step) (count mask : ℕ) (W : Walks adj steps count mask) where
  pub walks_full : 32 ≡ count → WalkOf adj steps 32 mask × Blank blank 32 steps
  walks_full e = rw e (walking_full adj steps count mask (omega (arith, e)) W.walking, W.rest)

  module _ (long : length steps ≡ 32) (some_member : 1 ≤ count) (room : count < 32) where
    found : (o : Option Step) → o ≡ step_of (on_mask adj (take count steps) mask (length (take count steps))) → o ≡ step_of (on_mask adj steps mask count)
    found o e =
        let q : length (take count steps) ≡ count = length-take-le count steps (omega (arith, long)) in
        e ∙ ap step_of (ap (on_mask adj (take count steps) mask) q ∙ on_take adj steps mask count count (omega arith))

    pub walks_end : None ≡ step_of (on_mask adj (take count steps) mask (length (take count steps))) → WalkOf adj steps count mask × Blank blank count steps
    walks_end e = (walking_done adj steps count mask some_member (to_none (on_mask adj steps mask count) (found None e)) W.walking, W.rest)

    module _ (w : Step) (e : Some w ≡ step_of (on_mask adj (take count steps) mask (length (take count steps)))) where
      to : on_mask adj steps mask count ≡ some (hop w)
      to = to_step (on_mask adj steps mask count) w (found (Some w) e)

      pub next_numbered : Numbered w.member
      next_numbered = let b = on_lt adj steps mask count (hop w) to in (b.0, b.1)

      pub walks_more : (next : ℕ) → next ≡ bit_or mask (2 ^ index w.member) → Walks adj (set steps count w) (count + 1) next
      walks_more next q = record {
        known = known_more steps count w (omega (arith, long)) next_numbered W.known;
        walking = rw q (walking_more adj steps count mask w (omega (arith, long)) to W.walking);
        rest = blank_set blank steps count w W.rest;
      }
