-- The sets of the members of each link's part keep who is joined, from link to link. Assumes nothing.
use mathlib.Core.Path.{◌≡◌, refl, sym, ap, ap₂, ◌∙◌, subst}
use mathlib.Core.Logic.{◌⊎◌, inl, inr, ⊎_elim}
use Rattle.std.proofs.Math.Nat.{eq-or-lt_of_le}
use mathlib.Core.Bool.{true, false, ◌&&◌}
use mathlib.Core.List.{List, [], ◌∷◌}
use Prim.Native.Nat.{ℕ, zero, suc, ◌+◌, ◌^◌, ◌≤◌, ◌<◌}
use native.Mathlib.Nat.{le_refl, not-suc-le-zero}
use native.Mathlib.Omega.{arith}
use lib.Dec.{eqb}
use lib.ListN.{length}
use Rattle.std.proofs.lemmas.Bool.{true≢false, or_left, or_right}
use Rattle.problem.specs.Problem.{Link, neighbours}
use Rattle.problem.proofs.Tree.{Joined, Open, Within}
use Rattle.problem.proofs.Tree.Joined.{same, step}
use Rattle.problem.proofs.Links.{joins_ends}
use Rattle.problem.proofs.Labels.{lab, lab_cases, lab_a, lab_b, lab_more, lab_joined, open_few}
use Rattle.problem.proofs.Count.{same?}
use Rattle.network.specs.inner.Sets.{holds}
use Rattle.network.specs.inner.Parts.{touches, gather, Merged}
use Rattle.network.proofs.Bit.{holds_or, holds_one}

-- ---- members that are joined have the same label

neighbours_lab : (ls : List Link) (u v : ℕ) → neighbours ls u v ≡ true → lab ls u ≡ lab ls v
neighbours_lab [] u v h = cc
neighbours_lab (l ∷ ls) u v h = grind (arith, h, joins_ends l u v, lab_a l ls, lab_b l ls, lab_more l ls u v, neighbours_lab ls u v)

joined_lab : {ls : List Link} {u v : ℕ} → Joined ls u v → lab ls u ≡ lab ls v
joined_lab same = refl
joined_lab {ls} (step {u = x} {v = y} h j) = neighbours_lab ls x y h ∙ joined_lab j

-- ---- links, the latest first, of which none joins members that are joined already: they are fewer than the members

abbrev pub Ringless : List Link → Type 0
Ringless [] = Unit {0}
Ringless (l ∷ ls) = (Joined ls l.a l.b → ⊥) × Ringless ls

few_more : (n : ℕ) (ls later : List Link) → 1 ≤ n → Within n ls → Within n later → Ringless ls → Open ls later → length ls + length later < n
few_more n [] later p w v r o = omega (arith, open_few n later p v o)
few_more n (l ∷ ls) later p w v r o = omega (arith, few_more n ls (l ∷ later) p w.1 (w.0, v) r.1 (r.0, o))

pub few : (n : ℕ) (ls : List Link) → 1 ≤ n → Within n ls → Ringless ls → length ls < n
few n ls p w r = omega (arith, few_more n ls [] p w tt r tt)

-- ---- the sets

-- each of the k sets is a whole part, and every member that is joined to another is in one
pub record Keeps (ls : List Link) (ms : ℕ → ℕ) (k : ℕ) : Type 0 where
  pub class : (e : ℕ) → e < k → (u v : ℕ) → holds (ms e) u ≡ true → lab ls (suc u) ≡ lab ls (suc v) → holds (ms e) v ≡ true
  pub joins : (e : ℕ) → e < k → (u v : ℕ) → holds (ms e) u ≡ true → holds (ms e) v ≡ true → lab ls (suc u) ≡ lab ls (suc v)
  pub cover : (u v : ℕ) → (u ≡ v → ⊥) → lab ls (suc u) ≡ lab ls (suc v) → (e : ℕ) × (e < k) × (holds (ms e) u ≡ true)

pub keeps_none : (ms : ℕ → ℕ) → Keeps [] ms 0
unfolding lab
keeps_none ms = record {
  class = λ e l. absurd (not-suc-le-zero l);
  joins = λ e l. absurd (not-suc-le-zero l);
  cover = λ u v d e. absurd (d (omega arith));
}

-- ---- what is gathered

module _ (ms : ℕ → ℕ) (a b v : ℕ) where
  gather_a : (k : ℕ) → holds (gather ms a b k) a ≡ true
  unfolding gather
  gather_a zero = grind (arith, holds_or (2 ^ a) (2 ^ b) a, holds_one a a)
  gather_a (suc k) = grind (arith, gather_a k, holds_or (gather ms a b k) (ms k) a)

  gather_b : (k : ℕ) → holds (gather ms a b k) b ≡ true
  unfolding gather
  gather_b zero = grind (arith, holds_or (2 ^ a) (2 ^ b) b, holds_one b b)
  gather_b (suc k) = grind (arith, gather_b k, holds_or (gather ms a b k) (ms k) b)

  gather_of : (k e : ℕ) → e < k → touches (ms e) a b ≡ true → holds (ms e) v ≡ true → holds (gather ms a b k) v ≡ true
  unfolding gather
  gather_of zero e l t h = absurd (not-suc-le-zero l)
  gather_of (suc k) e l t h = grind (arith, t, h, gather_of k e, holds_or (gather ms a b k) (ms k) v)

-- member v is in the part of x or of y
abbrev Part : List Link → ℕ → ℕ → ℕ → Type 0
Part ls x y v = (lab ls v ≡ lab ls x) ⊎ (lab ls v ≡ lab ls y)

module _ (ls : List Link) (ms : ℕ → ℕ) (k : ℕ) (K : Keeps ls ms k) where
  -- a set that holds both ends: the ends were joined
  pub closing : (a b e : ℕ) → e < k → holds (ms e) a ≡ true → holds (ms e) b ≡ true → Joined ls (suc a) (suc b)
  closing a b e l p q = lab_joined ls (suc a) (suc b) (K.joins e l a b p q)

  -- no set holds both: they were not
  pub not_closing : (a b : ℕ) → (a ≡ b → ⊥) → ((e : ℕ) → e < k → (holds (ms e) a && holds (ms e) b) ≡ false) → Joined ls (suc a) (suc b) → ⊥
  not_closing a b d h j =
      let q = K.cover a b d (joined_lab j) in
      true≢false (sym (ap₂ ◌&&◌ q.2 (K.class q.0 q.1 a b q.2 (joined_lab j))) ∙ h q.0 q.1)

  module _ (a b v : ℕ) where
    gather_parts : (j : ℕ) → j ≤ k → holds (gather ms a b j) v ≡ true → Part ls (suc a) (suc b) (suc v)
    unfolding gather
    gather_parts zero l h = grind (arith, h, holds_or (2 ^ a) (2 ^ b) v, holds_one a v, holds_one b v)
    gather_parts (suc j) l h = grind (arith, h, gather_parts j, holds_or (gather ms a b j) (ms j) v, K.joins j (omega arith) v a, K.joins j (omega arith) v b)

    parts_gather : Part ls (suc a) (suc b) (suc v) → holds (gather ms a b k) v ≡ true
    parts_gather p = go p
      where
        with_end : (x : ℕ) → holds (gather ms a b k) x ≡ true → ((e : ℕ) → holds (ms e) x ≡ true → touches (ms e) a b ≡ true) → lab ls (suc v) ≡ lab ls (suc x)
            → ((v ≡ x) × (eqb v x ≡ true)) ⊎ ((v ≡ x → ⊥) × (eqb v x ≡ false)) → holds (gather ms a b k) v ≡ true
        with_end x h t e (inl q) = subst (λ (y : ℕ). holds (gather ms a b k) y ≡ true) (sym q.0) h
        with_end x h t e (inr q) =
            let c = K.cover v x q.0 e in
            gather_of ms a b v k c.0 c.1 (t c.0 (K.class c.0 c.1 v x c.2 e)) c.2

        go : Part ls (suc a) (suc b) (suc v) → holds (gather ms a b k) v ≡ true
        go (inl e) = with_end a (gather_a ms a b v k) (λ i. or_left (holds (ms i) a) (holds (ms i) b)) e (same? v a)
        go (inr e) = with_end b (gather_b ms a b v k) (λ i. or_right (holds (ms i) a) (holds (ms i) b)) e (same? v b)

-- ---- one link more

module _ (ls : List Link) (l : Link) where
  -- member v was in the part of an end
  abbrev Near : ℕ → Type 0
  Near v = Part ls l.a l.b v

  near_lab : (v : ℕ) → Near v → lab (l ∷ ls) v ≡ lab ls l.a
  near_lab v p = grind (arith, p, lab_cases l ls v)

  lab_near : (v : ℕ) → lab (l ∷ ls) v ≡ lab ls l.a → Near v
  lab_near v q = grind (arith, q, lab_cases l ls v)

  -- u is far and has v's new label: it had v's old one
  far_same : (u v : ℕ) → (Near u → ⊥) → lab (l ∷ ls) u ≡ lab (l ∷ ls) v → lab ls u ≡ lab ls v
  far_same u v d e = grind (arith, d, e, lab_cases l ls u, lab_cases l ls v)

  near_or : (v : ℕ) → Near v ⊎ (Near v → ⊥)
  near_or v = go (same? (lab (l ∷ ls) v) (lab ls l.a))
    where
      go : ((lab (l ∷ ls) v ≡ lab ls l.a) × (eqb (lab (l ∷ ls) v) (lab ls l.a) ≡ true)) ⊎ ((lab (l ∷ ls) v ≡ lab ls l.a → ⊥) × (eqb (lab (l ∷ ls) v) (lab ls l.a) ≡ false)) → Near v ⊎ (Near v → ⊥)
      go (inl e) = inl (lab_near v e.0)
      go (inr d) = inr (λ p. d.0 (near_lab v p))

module _ (ls : List Link) (l : Link) (a b : ℕ) (low : l.a ≡ suc a) (high : l.b ≡ suc b) (ms ms' : ℕ → ℕ) (k : ℕ) (K : Keeps ls ms k) (M : Merged ms ms' k a b (gather ms a b k)) where
  -- what is gathered is what is near
  g_near : (v : ℕ) → holds (gather ms a b k) v ≡ true → Near ls l (suc v)
  g_near v h = grind (arith, low, high, gather_parts ls ms k K a b v k (le_refl k) h)

  near_g : (v : ℕ) → Near ls l (suc v) → holds (gather ms a b k) v ≡ true
  near_g v h = parts_gather ls ms k K a b v (grind (arith, low, high, h))

  -- an old set that holds no end has nothing near
  far : (e : ℕ) → e < k → touches (ms e) a b ≡ false → (v : ℕ) → holds (ms e) v ≡ true → Near ls l (suc v) → ⊥
  far e i t v h n = grind (arith, low, high, t, h, n, K.class e i v a, K.class e i v b)

  module _ (e u v : ℕ) (h : holds (ms' e) u ≡ true) where
    class_new : e ≡ k → lab (l ∷ ls) (suc u) ≡ lab (l ∷ ls) (suc v) → holds (ms' e) v ≡ true
    class_new i q =
        let was : ms' e ≡ gather ms a b k = ap ms' i ∙ M.new in
        grind (arith, h, was, q, g_near u, near_g v, near_lab ls l (suc u), lab_near ls l (suc v))

    class_old : e < k → lab (l ∷ ls) (suc u) ≡ lab (l ∷ ls) (suc v) → holds (ms' e) v ≡ true
    class_old i q =
        grind (arith, h, M.old e i, q, g_near u, near_g v, near_lab ls l (suc u), lab_near ls l (suc v), far_same ls l (suc u) (suc v), far e i, K.class e i u v)

    joins_new : e ≡ k → holds (ms' e) v ≡ true → lab (l ∷ ls) (suc u) ≡ lab (l ∷ ls) (suc v)
    joins_new i p =
        let was : ms' e ≡ gather ms a b k = ap ms' i ∙ M.new in
        grind (arith, h, p, was, g_near u, g_near v, near_lab ls l (suc u), near_lab ls l (suc v))

    joins_old : e < k → holds (ms' e) v ≡ true → lab (l ∷ ls) (suc u) ≡ lab (l ∷ ls) (suc v)
    joins_old i p = grind (arith, h, p, M.old e i, g_near u, g_near v, near_lab ls l (suc u), near_lab ls l (suc v), K.joins e i u v, lab_more l ls (suc u) (suc v))

  -- a member of an old set is in it still
  stays : (e : ℕ) → e < k → (u : ℕ) → holds (ms e) u ≡ true → holds (ms' e) u ≡ true
  stays e i u h = grind (arith, h, M.old e i, gather_of ms a b u k e i)

  pub keeps_more : Keeps (l ∷ ls) ms' (suc k)
  keeps_more = record {
    class = λ e i u v h q. ⊎_elim (λ (o : e ≡ k). class_new e u v h o q) (λ (o : e < k). class_old e u v h o q) (eq-or-lt_of_le (omega arith));
    joins = λ e i u v h q. ⊎_elim (λ (o : e ≡ k). joins_new e u v h o q) (λ (o : e < k). joins_old e u v h o q) (eq-or-lt_of_le (omega arith));
    cover = λ u v d q. covered u v d q (near_or ls l (suc u));
  }
    where
      covered : (u v : ℕ) → (u ≡ v → ⊥) → lab (l ∷ ls) (suc u) ≡ lab (l ∷ ls) (suc v) → Near ls l (suc u) ⊎ (Near ls l (suc u) → ⊥) → (e : ℕ) × (e < suc k) × (holds (ms' e) u ≡ true)
      covered u v d q (inl n) = (k, le_refl (suc k), ap (λ (m : ℕ). holds m u) M.new ∙ near_g u n)
      covered u v d q (inr n) =
          let c = K.cover u v d (far_same ls l (suc u) (suc v) n q) in
          (c.0, omega (arith, c.1), stays c.0 c.1 u c.2)
