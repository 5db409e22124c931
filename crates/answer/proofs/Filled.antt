-- An area filled from its start with lists one after the other, each into the part that is lent from the first free
-- position on. Assumes nothing.
use mathlib.Core.Path.{◌≡◌, refl, sym, ap, ap₂, ◌∙◌}
use mathlib.Core.List.{List, [], ◌++◌, append_assoc, append-nil}
use Prim.Native.Nat.{ℕ, suc, ◌+◌, ◌-◌, ◌≤◌}
use native.Mathlib.Omega.{arith}
use native.Mathlib.Numerals.{add-one}
use lib.ListN.{length, length-append, take, drop, length-take, length-drop, drop_of_length-le}
use lib.Seq.{take_at, drop_at, drop-length, take-length, drop-drop}
use borrow.Rule.Slice.PartMut.{put_mid}
use Rattle.records.specs.Answer.{each}
use Rattle.records.proofs.Written.{each_prefix}
use Rattle.answer.specs.inner.Words.{Filled}

-- a part that is lent, of a list p ++ q
module _ (p q : List ℕ) (a : ℕ) (e : length p ≡ a) where
  rest : length (p ++ q) - a ≡ length q
  rest = omega (arith, length-append p q)

  -- from a on: what is lent, and the whole once it holds ys
  pub tail_is : take (length (p ++ q) - a) (drop a (p ++ q)) ≡ q
  tail_is = rw (rest, drop_at p q a e, take-length)

  pub put_tail : (ys : List ℕ) → put_mid a (length (p ++ q) - a) (p ++ q) ys ≡ p ++ ys
  put_tail ys = rw (rest, take_at p q a e, drop_at p q a e, drop-length, append-nil)

-- Three parts of an area b, one after the other: p, which ends at a, is there; the part from a to e is lent and q fills it;
-- the part from e on is lent and begins with r, or r, of k elements, is copied into the part for it.
module _ (b p q r : List ℕ) (a e : ℕ) (p-ends : length p ≡ a) (q-fills : length q ≡ e - a) (order : a ≤ e) where
  middle : {l ys : List ℕ} → l ≡ p ++ drop a b → ys ≡ q ++ drop (length q) (take (e - a) (drop a l)) → put_mid a (e - a) l ys ≡ (p ++ q) ++ drop e b
  middle {l} {ys} is h =
      let d : List ℕ = drop a b in
      let short : length (take (e - a) (drop a l)) ≤ length q = simp length-take (omega arith) in
      let y : ys ≡ q = h ∙ ap (λ (x : List ℕ). q ++ x) (drop_of_length-le (take (e - a) (drop a l)) short) ∙ append-nil q in
      let m : a + (e - a) ≡ e = omega arith in
      rw (is, take_at p d a p-ends, drop_at p d a p-ends, y, drop-drop (e - a) a b, m, append_assoc)

  pub three_parts : (k all : ℕ) → e + k ≡ all → {l₁ y₁ l₂ y₂ : List ℕ} → l₁ ≡ p ++ drop a b → y₁ ≡ q ++ drop (length q) (take (e - a) (drop a l₁)) → l₂ ≡ put_mid a (e - a) l₁ y₁
      → y₂ ≡ r ++ drop k (take (length l₂ - e) (drop e l₂)) → put_mid e (length l₂ - e) l₂ y₂ ≡ (p ++ q ++ r) ++ drop all b
  three_parts k all ends {l₁} {y₁} {l₂} {y₂} is h put g =
      let d : List ℕ = drop e b in
      let len : length (p ++ q) ≡ e = omega (arith, length-append p q) in
      let now : l₂ ≡ (p ++ q) ++ d = put ∙ middle is h in
      let y : y₂ ≡ r ++ drop k d = g ∙ (rw (now, tail_is (p ++ q) d e len) refl) in
      rw (now, put_tail (p ++ q) d e len y₂, y, drop-drop k e b, ends) (simp append_assoc)

  pub three_copied : (k all : ℕ) → e + k ≡ all → {l₁ y₁ l₂ y₂ : List ℕ} → l₁ ≡ p ++ drop a b → y₁ ≡ q ++ drop (length q) (take (e - a) (drop a l₁)) → l₂ ≡ put_mid a (e - a) l₁ y₁
      → y₂ ≡ r → put_mid e (e + k - e) l₂ y₂ ≡ (p ++ q ++ r) ++ drop all b
  three_copied k all ends {l₁} {y₁} {l₂} {y₂} is h put g =
      let d : List ℕ = drop e b in
      let len : length (p ++ q) ≡ e = omega (arith, length-append p q) in
      let part : e + k - e ≡ k = omega arith in
      let now : l₂ ≡ (p ++ q) ++ d = put ∙ middle is h in
      rw (part, now, take_at (p ++ q) d e len, drop_at (p ++ q) d e len, g, drop-drop k e b, ends) (simp append_assoc)

module _ (f : ℕ → List ℕ) (before : List ℕ) where
  pub filled_none : Filled f 0 before 0 before
  unfolding each
  filled_none = record { at_is = refl; out_is = refl }

  -- one list more, written by a callee
  pub filled_more : {i at : ℕ} {out ys : List ℕ} (k : ℕ) → Filled f i before at out → k ≡ length (f (i + 1))
      → ys ≡ f (i + 1) ++ drop k (take (length out - at) (drop at out)) → Filled f (i + 1) before (at + k) (put_mid at (length out - at) out ys)
  unfolding each
  filled_more {i} {at} {out} {ys} k F e h =
      let d : List ℕ = drop at before in
      let a : length (each i f) ≡ at = sym F.at_is in
      let g : ys ≡ f (i + 1) ++ drop k d = h ∙ (rw (F.out_is, tail_is (each i f) d at a) refl) in
      record {
        at_is = rw (F.at_is, e, add-one, length-append);
        out_is = rw (F.out_is, put_tail (each i f) d at a, g, add-one, ← drop-drop k at before, append_assoc);
      }

  -- one list more, of k elements, copied into the part for it
  pub filled_copied : {i at to : ℕ} {out ys : List ℕ} (k : ℕ) → Filled f i before at out → k ≡ length (f (i + 1)) → ys ≡ f (i + 1) → at + k ≡ to
      → Filled f (i + 1) before to (put_mid at (at + k - at) out ys)
  unfolding each
  filled_copied {i} {at} k F e h on =
      let d : List ℕ = drop at before in
      let a : length (each i f) ≡ at = sym F.at_is in
      let part : at + k - at ≡ k = omega arith in
      record {
        at_is = rw (← on, F.at_is, e, add-one, length-append);
        out_is = rw (part, ← on, F.out_is, take_at (each i f) d at a, drop_at (each i f) d at a, h, add-one, ← drop-drop k at before, append_assoc);
      }

  -- one list more that is empty
  pub filled_skip : {i at : ℕ} {out : List ℕ} → Filled f i before at out → f (i + 1) ≡ [] → Filled f (i + 1) before at out
  unfolding each
  filled_skip {i} {at} {out} F e =
      let g : each (suc i) f ≡ each i f = (rw add-one at (ap (λ (x : List ℕ). each i f ++ x) e)) ∙ append-nil (each i f) in
      record { at_is = rw (add-one, g) F.at_is; out_is = rw (add-one, g) F.out_is }

  -- there is room up to the n-th
  pub filled_room : {i at : ℕ} {out : List ℕ} (n : ℕ) → Filled f i before at out → i ≤ n → length (each n f) ≤ length before
      → (at ≤ length before) × (length out ≡ length before)
  filled_room {i} {at} n F l r =
      let p : length (each i f) ≤ length (each n f) = each_prefix n i f l in
      (omega (arith, F.at_is), ap length F.out_is ∙ length-append (each i f) (drop at before) ∙ omega (arith, length-drop at before, F.at_is))

  -- and for one list more
  pub filled_next : {i at : ℕ} {out : List ℕ} (n : ℕ) → Filled f i before at out → i + 1 ≤ n → length (each n f) ≤ length before
      → at + length (f (i + 1)) ≤ length before
  unfolding each
  filled_next {i} {at} n F l r =
      let p : length (each (i + 1) f) ≤ length (each n f) = each_prefix n (i + 1) f l in
      let q : length (each (i + 1) f) ≡ length (each i f) + length (f (i + 1)) = rw add-one (length-append (each i f) (f (suc i))) in
      omega (arith, F.at_is)

  -- all n are there, which have k elements
  pub filled_done : {i at : ℕ} {out : List ℕ} (n k : ℕ) → Filled f i before at out → i ≡ n → length (each n f) ≡ k → out ≡ each n f ++ drop k before
  filled_done {i} {at} n k F e l =
      let a : at ≡ k = F.at_is ∙ ap (λ (j : ℕ). length (each j f)) e ∙ l in
      F.out_is ∙ ap₂ (λ (j : ℕ) (d : ℕ). each j f ++ drop d before) e a
