-- The record of the link between two members, if there is one. Assumes nothing.
use mathlib.Core.Path.{◌≡◌, refl, sym, ap, ◌∙◌}
use mathlib.Core.Bool.{true, false}
use mathlib.Core.List.{[]}
use Prim.Native.Nat.{ℕ, ◌<◌}
use lib.ListN.{length}
use lib.IntN.{ℤ}
use Rattle.std.specs.Prelude.{Option, Some, None}
use Rattle.std.specs.Ordering.{is_ge, nat_cmp}
use borrow.Author.Rules.{rules}
use Rattle.engine.specs.inner.Words.{sent_in}
use Rattle.network.specs.inner.Feeders.{parent_at, toward_at}
use Rattle.records.specs.Answer.{link_record}
use Rattle.records.proofs.Written.{link_8}
use Rattle.answer.specs.declared.allocation.Allocation.{Allocation}
use Rattle.answer.specs.inner.Records.{place_of, parent_of, joint_of, from_lower, joint_bytes, link_by}
use Rattle.answer.specs.declared.links.Joint.{Joint}

-- ---- where it is found, by the comparison of the two members
module _ (x : Allocation) (a b : ℕ) where
  pub not_below : true ≡ is_ge (nat_cmp a b) → None ≡ joint_of x a b
  unfolding joint_of
  not_below t = search rules

  pub higher_reached : false ≡ is_ge (nat_cmp a b) → {i k : ℕ} → i ≡ place_of x b → k ≡ place_of x a → parent_at x.feeder.now i ≡ k
      → Some (record { reached = i; lower = false }) ≡ joint_of x a b
  unfolding joint_of
  higher_reached t p q e = search rules

  module _ (t : false ≡ is_ge (nat_cmp a b)) (h : parent_of x b ≡ place_of x a → ⊥) where
    pub lower_reached : parent_of x a ≡ place_of x b → Some (record { reached = place_of x a; lower = true }) ≡ joint_of x a b
    unfolding joint_of
    lower_reached e = search rules

    pub not_reached : (parent_of x a ≡ place_of x b → ⊥) → None ≡ joint_of x a b
    unfolding joint_of
    not_reached e = search rules

  -- the position that it is found at is a member's
  pub joint_inside : (j : Joint) → Some j ≡ joint_of x a b → j.reached < x.feeder.now.members
  unfolding joint_of
  joint_inside j e = let inside = x.positioned.inside in search rules

-- ---- its record
none_written : (x : Allocation) (a b : ℕ) (r : Option Joint) → ((j : Joint) → r ≡ Some j → ⊥) → joint_bytes x a b r ≡ []
unfolding joint_bytes
none_written x a b (Some j) t = absurd (t j refl)
none_written x a b None t = refl

module _ (x : Allocation) (a b : ℕ) {r : Option Joint} (is : r ≡ joint_of x a b) where
  pub no_record : ((j : Joint) → r ≡ Some j → ⊥) → link_by x a b ≡ []
  unfolding link_by
  no_record t = ap (joint_bytes x a b) (sym is) ∙ none_written x a b r t

  module _ {j : Joint} {y : ℤ} (over : r ≡ Some j) (flow : y ≡ from_lower j.lower (sent_in x.trades.now j.reached)) where
    pub one_record : link_record (record { a = a; b = b; capacity = toward_at x.feeder.now j.reached }) y ≡ link_by x a b
    unfolding link_by joint_bytes
    one_record = ap (link_record (record { a = a; b = b; capacity = toward_at x.feeder.now j.reached })) flow ∙ ap (joint_bytes x a b) (sym over ∙ is)

    pub one_long : 8 ≡ length (link_by x a b)
    one_long = sym (link_8 _ _) ∙ ap length one_record
