-- Sums of cells, and turns of the search for a cell's best and of the pass over a row. Assumes nothing.
use mathlib.Core.Path.{◌≡◌, refl, ap, ◌∙◌}
use mathlib.Core.List.{List}
use mathlib.Core.Logic.{◌⊎◌, inl, inr}
use Prim.Native.Nat.{ℕ, zero, suc, ◌+◌, ◌-◌, ◌<◌, ◌≤◌}
use native.Mathlib.Omega.{arith}
use lib.ListN.{length, get_or, set, length-set}
use lib.Seq.{get_or-set_same, get_or-set_other}
use borrow.Author.Count.{below_none, below_more}
use borrow.Author.Tests.{lt-ltb, le-ltb}
use Rattle.problem.proofs.Cell.{◌⊕◌, ⊕_comm}
use Rattle.problem.proofs.Max.{max_to, argmax}
use Rattle.rows.specs.inner.Rows.{meets}

-- ---- the sum of two cells
pub one_none : (a b : ℕ) → (a ≡ 0) ⊎ ((a ≡ 0 → ⊥) × (b ≡ 0)) → 0 ≡ a ⊕ b
unfolding ◌⊕◌
one_none a b (inl e) = rw e
one_none a b (inr n) = rw n.1 (⊕_comm 0 a)

pub none_left : (a b : ℕ) → a ≡ 0 → 0 ≡ a ⊕ b
none_left a b e = one_none a b (inl e)

pub none_right : (a b : ℕ) → b ≡ 0 → 0 ≡ a ⊕ b
none_right a b e = none_left b a e ∙ ⊕_comm b a

pub both : (a b : ℕ) → (a ≡ 0 → ⊥) × (b ≡ 0 → ⊥) → a + b - 1 ≡ a ⊕ b
unfolding ◌⊕◌
both zero b n = absurd (n.0 refl)
both (suc a) zero n = absurd (n.1 refl)
both (suc a) (suc b) n = omega arith

-- ---- the best of the places below p + 1, and the first that has it: s, at place p, or what they were
module _ (f : ℕ → ℕ) (p best pick s : ℕ) (l : 1 ≤ p) (i : (best ≡ max_to f (p - 1)) × (pick ≡ argmax f (p - 1))) (es : s ≡ f p) where
  at_p : s ≡ f (suc (p - 1))
  at_p = es ∙ ap f (omega arith)

  next : p + 1 - 1 ≡ suc (p - 1)
  next = omega arith

  pub better : best < s → (s ≡ max_to f (p + 1 - 1)) × (p ≡ argmax f (p + 1 - 1))
  unfolding max_to argmax
  better h = rw (next, lt-ltb (max_to f (p - 1)) (f (suc (p - 1))) (omega (arith, at_p, i.0))) (omega (arith, at_p, i.0), omega arith)

  pub no_better : s ≤ best → (best ≡ max_to f (p + 1 - 1)) × (pick ≡ argmax f (p + 1 - 1))
  unfolding max_to argmax
  no_better h = rw (next, le-ltb (max_to f (p - 1)) (f (suc (p - 1))) (omega (arith, at_p, i.0))) (omega (arith, at_p, i.0), i.1)

-- ---- a row whose cells below x are made, and whose cells from x on are as they were
pub record Made (f : ℕ → ℕ) (old row : List ℕ) (x : ℕ) : Type 0 where
  pub len : length row ≡ length old
  pub cells : (y : ℕ) → y < x → get_or row y 0 ≡ f y
  pub past : (y : ℕ) → x ≤ y → get_or row y 0 ≡ get_or old y 0

pub none_made : (f : ℕ → ℕ) (row : List ℕ) → Made f row row 0
none_made f row = record { len = refl; cells = below_none _; past = λ y h. refl }

pub one_made : {f : ℕ → ℕ} {old row : List ℕ} {x v : ℕ} → Made f old row x → x < length row → v ≡ f x → Made f old (set row x v) (x + 1)
one_made {f} {old} {row} {x} {v} m l e = record {
  len = simp length-set m.len;
  cells = below_more _ _ (λ y h. get_or-set_other row x y v 0 (omega arith) ∙ m.cells y h) (get_or-set_same row x v 0 l ∙ e);
  past = λ y h. get_or-set_other row x y v 0 (omega arith) ∙ m.past y (omega arith);
}

-- ---- at cell x a message meets a row that is made below x as it meets the old row
pub made_meets : {f : ℕ → ℕ} {old row : List ℕ} {x : ℕ} → Made f old row x → (msg : List ℕ) (p : ℕ) → meets row msg x p ≡ meets old msg x p
unfolding meets
made_meets {x} m msg p = ap (λ (v : ℕ). get_or msg p 0 ⊕ v) (m.past (x + (length msg - 1 - p)) (omega arith))
