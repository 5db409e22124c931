-- Fractions pay no more, in walk form. In d-ths every index, choice and width is d times as fine. Index y = d t + r lies between the whole
-- units t and t + 1, and a row in d-ths is finer than a whole-unit row where its price at y is at most a = d - r times the whole-unit
-- price at t and r times that at t + 1. Elimination keeps that, so that at index 0 the total in d-ths is at most d times the whole-unit
-- total. Assumes nothing.
use mathlib.Core.Path.{◌≡◌, refl, sym, ap, ◌∙◌, subst₂, fun_ext}
use mathlib.Core.Logic.{◌≢◌, inl, inr}
use mathlib.Core.Bool.{Bool, true, false}
use Prim.Native.Nat.{ℕ, zero, suc, ◌+◌, ◌-◌, ◌*◌, ◌/◌, ◌%◌, ◌≤◌, ◌<◌, pred}
use native.Mathlib.Nat.{mul-add, add-mul, mul-suc, mul-zero, zero-mul, mul-le-mul_left, le_of_mul-le-mul_left, lt_of_mul-lt-mul_left, div-add-mod, mod-lt, eq-zero-or-pos}
use native.Mathlib.Omega.{arith}
use lib.Dec.{eqb, leb}
use borrow.Author.Tests.{leb-true, leb-false}
use Rattle.problem.proofs.Cell.{◌⊕◌, ⊕_one, ⊕_left, ⊕_right, ⊕_some}
use Rattle.problem.proofs.Max.{pick, max_to, argmax, first_max}
use Rattle.problem.proofs.Form.{Walk, run}

-- v is at most a times F's price at t and r times that at t + 1, both being there where they count
pub record Mixed (F : ℕ → ℕ) (t a r v : ℕ) : Type 0 where
  pub low : F t ≢ 0
  pub high : r ≢ 0 → F (suc t) ≢ 0
  pub under : v ≤ a * pred (F t) + r * pred (F (suc t))

-- the row G, in d-ths, is finer than the whole-unit row F
abbrev pub Finer : ℕ → (ℕ → ℕ) → (ℕ → ℕ) → Type 0
Finer d G F = (y t a r : ℕ) → a + r ≡ d → 1 ≤ a → y ≡ d * t + r → G y ≢ 0 → Mixed F t a r (pred (G y))

-- ---- a message F joined to a row G over a link of width w: choice p and index z make index y where p + z = y + d w

-- an inequality counts only where its factor does
pub scale_le : (r x y : ℕ) → (r ≢ 0 → x ≤ y) → r * x ≤ r * y
scale_le zero x y h = omega (arith, zero-mul x, zero-mul y)
scale_le (suc r) x y h = mul-le-mul_left (suc r) (h (omega arith))

-- Let p, z and y be t, S and X units and the parts r, s and R. Where r + s = R, the prices at t and S are for X, and those at t + 1 and S
-- or at t and S + 1 for X + 1.
mix_short : (A r s f0 f1 g0 g1 h0 h1 : ℕ) {v u : ℕ} → f0 + g0 ≤ h0 → (r ≢ 0 → f1 + g0 ≤ h1) → (s ≢ 0 → f0 + g1 ≤ h1)
    → v ≤ (A + s) * f0 + r * f1 → u ≤ (A + r) * g0 + s * g1 → v + u ≤ A * h0 + (r + s) * h1
mix_short A r s f0 f1 g0 g1 h0 h1 p q o hv hu =
    omega (
      arith,
      mul-le-mul_left A p,
      scale_le r (f1 + g0) h1 q,
      scale_le s (f0 + g1) h1 o,
      mul-add A f0 g0,
      mul-add r f1 g0,
      mul-add s f0 g1,
      add-mul A s f0,
      add-mul A r g0,
      add-mul r s h1,
    )

-- Where r + s = d + R, the prices at t and S + 1 or at t + 1 and S are for X, and those at t + 1 and S + 1 for X + 1.
mix_over : (a b R f0 f1 g0 g1 h0 h1 : ℕ) {v u : ℕ} → f0 + g1 ≤ h0 → f1 + g0 ≤ h0 → (R ≢ 0 → f1 + g1 ≤ h1)
    → v ≤ a * f0 + (b + R) * f1 → u ≤ b * g0 + (a + R) * g1 → v + u ≤ (a + b) * h0 + R * h1
mix_over a b R f0 f1 g0 g1 h0 h1 p q o hv hu =
    omega (
      arith,
      mul-le-mul_left a p,
      mul-le-mul_left b q,
      scale_le R (f1 + g1) h1 o,
      mul-add a f0 g1,
      mul-add b f1 g0,
      mul-add R f1 g1,
      add-mul b R f1,
      add-mul a R g1,
      add-mul a b h0,
    )

-- the price of c is no less than those of a and b together
record Above (a b c : ℕ) : Type 0 where
  pub there : c ≢ 0
  pub sum : pred a + pred b ≤ pred c

above : (a b c : ℕ) → a ≢ 0 → b ≢ 0 → a ⊕ b ≤ c → Above a b c
above a b c n m h = record { there = omega (arith, ⊕_some a b n m); sum = omega (arith, ⊕_some a b n m) }

-- elimination's step: the best of the choices p from 0 to w
unfoldable join : (ℕ → ℕ) → (ℕ → ℕ) → ℕ → ℕ → ℕ
join F G w x = max_to (λ p. F p ⊕ G (x + (w - p))) w

join_above : (F G : ℕ → ℕ) (w x p z : ℕ) → p ≤ w → z ≡ x + (w - p) → F p ≢ 0 → G z ≢ 0 → Above (F p) (G z) (join F G w x)
unfolding join
join_above F G w x p z l e n m = above (F p) (G z) _ n m (rw e ((first_max (λ p. F p ⊕ G (x + (w - p))) w).upper p l))

short : (F G : ℕ → ℕ) (w A r s t X v u : ℕ) → t ≤ w → (r ≢ 0 → t < w) → Mixed F t (A + s) r v → Mixed G (X + (w - t)) (A + r) s u
    → Mixed (join F G w) X A (r + s) (v + u)
short F G w A r s t X v u l l' f g =
    let S = X + (w - t) in
    let h0 = join_above F G w X t S l refl f.low g.low in
    record {
      low = h0.there;
      high = λ n. elim (eq-zero-or-pos r) [ inl e ↦ (late (omega arith)).there | inr q ↦ (next (omega arith)).there ];
      under =
          mix_short A r s (pred (F t)) (pred (F (suc t))) (pred (G S)) (pred (G (suc S))) (pred (join F G w X)) (pred (join F G w (suc X)))
          h0.sum (λ n. (next n).sum) (λ n. (late n).sum) f.under g.under;
    }
  where
    next : r ≢ 0 → Above (F (suc t)) (G (X + (w - t))) (join F G w (suc X))
    next n = join_above F G w (suc X) (suc t) (X + (w - t)) (l' n) (omega (arith, l' n)) (f.high n) g.low

    late : s ≢ 0 → Above (F t) (G (suc (X + (w - t)))) (join F G w (suc X))
    late n = join_above F G w (suc X) t (suc (X + (w - t))) l (omega arith) f.low (g.high n)

over : (F G : ℕ → ℕ) (w a b R t X v u : ℕ) → 1 ≤ a → 1 ≤ b → t < w → Mixed F t a (b + R) v → Mixed G (X + (w - suc t)) b (a + R) u
    → Mixed (join F G w) X (a + b) R (v + u)
over F G w a b R t X v u ha hb l f g =
    let S = X + (w - suc t) in
    let f1 : F (suc t) ≢ 0 = f.high (omega arith) in
    let g1 : G (suc S) ≢ 0 = g.high (omega arith) in
    let p0 = join_above F G w X t (suc S) (omega arith) (omega arith) f.low g1 in
    let q0 = join_above F G w X (suc t) S l refl f1 g.low in
    let o1 = join_above F G w (suc X) (suc t) (suc S) l (omega arith) f1 g1 in
    record {
      low = p0.there;
      high = λ n. o1.there;
      under =
          mix_over a b R (pred (F t)) (pred (F (suc t))) (pred (G S)) (pred (G (suc S))) (pred (join F G w X)) (pred (join F G w (suc X)))
          p0.sum q0.sum (λ n. o1.sum) f.under g.under;
    }

module _ (d : ℕ) (Fd F Gd G : ℕ → ℕ) (w : ℕ) (hF : Finer d Fd F) (hG : Finer d Gd G) where
  -- each choice, by whether r is at most R
  term : (p t a r y X A R : ℕ) → a + r ≡ d → 1 ≤ a → p ≡ d * t + r → p ≤ d * w → A + R ≡ d → 1 ≤ A → y ≡ d * X + R
      → Fd p ≢ 0 → Gd (y + (d * w - p)) ≢ 0 → Mixed (join F G w) X A R (pred (Fd p) + pred (Gd (y + (d * w - p))))
  term p t a r y X A R ea ha ep lp eA hA ey nF nG = go (leb r R) refl
    where
      within : t ≤ w
      within = le_of_mul-le-mul_left {k = d} (omega arith) (omega arith)

      below : r ≢ 0 → t < w
      below n = lt_of_mul-lt-mul_left d (omega arith)

      go : (b : Bool) → leb r R ≡ b → Mixed (join F G w) X A R (pred (Fd p) + pred (Gd (y + (d * w - p))))
      go true e =
          let s = R - r in
          let l : r ≤ R = leb-true r R e in
          let u = w - t in
          let wide : d * w ≡ d * t + d * u = ap (λ (n : ℕ). d * n) (omega (arith, within)) ∙ mul-add d t u in
          let f : Mixed F t (A + s) r (pred (Fd p)) = hF p t (A + s) r (omega arith) (omega arith) ep nF in
          let g = hG (y + (d * w - p)) (X + u) (A + r) s (omega arith) (omega arith) (omega (arith, mul-add d X u, wide)) nG in
          let eR : R ≡ r + s = omega arith in
          rw eR (short F G w A r s t X _ _ within below f g)
      go false e =
          let b = r - R in
          let l : R < r = leb-false r R e in
          let next : t < w = below (omega arith) in
          let u = w - suc t in
          let wide : d * w ≡ d * t + d + d * u = ap (λ (n : ℕ). d * n) (omega (arith, next)) ∙ mul-add d (suc t) u ∙ ap (λ (n : ℕ). n + d * u) (mul-suc d t) in
          let f : Mixed F t a (b + R) (pred (Fd p)) = hF p t a (b + R) (omega arith) ha (omega arith) nF in
          let g = hG (y + (d * w - p)) (X + u) b (a + R) (omega arith) (omega arith) (omega (arith, mul-add d X u, wide)) nG in
          let eA : A ≡ a + b = omega arith in
          rw eA (over F G w a b R t X _ _ ha (omega arith) next f g)

  join_finer : Finer d (join Fd Gd (d * w)) (join F G w)
  unfolding join
  join_finer y X A R eA hA ey n =
      let f : ℕ → ℕ = λ p. Fd p ⊕ Gd (y + (d * w - p)) in
      let top = first_max f (d * w) in
      let p = argmax f (d * w) in
      let some : f p ≢ 0 = λ z. n (sym top.attained ∙ z) in
      let nF : Fd p ≢ 0 = ⊕_left (Fd p) _ some in
      let nG : Gd (y + (d * w - p)) ≢ 0 = ⊕_right (Fd p) _ some in
      let small : p % d < d = mod-lt p (omega arith) in
      let e : pred (max_to f (d * w)) ≡ pred (Fd p) + pred (Gd (y + (d * w - p))) =
      ap pred (sym top.attained ∙ ⊕_some (Fd p) (Gd (y + (d * w - p))) nF nG) in
      let m = term p (p / d) (d - p % d) (p % d) y X A R (omega arith) (omega arith) (sym (div-add-mod p d)) top.within eA hA ey nF nG in
      rw e m

-- ---- along the walk

-- the walk in d-ths
abbrev pub fine : ℕ → Walk → (ℕ → ℕ → ℕ) → Walk
fine d k row = record { par = k.par; wide = λ i. d * k.wide i; gain = λ i p. 1; row = row }

pick_finer : (d : ℕ) (b : Bool) {G F G' F' : ℕ → ℕ} → Finer d G F → Finer d G' F' → Finer d (λ x. pick b (G x) (G' x)) (λ x. pick b (F x) (F' x))
pick_finer d true h l = h
pick_finer d false h l = l

merged : (g : ℕ → ℕ) (F G : ℕ → ℕ) (w : ℕ) → ((p : ℕ) → g p ≡ 1) → join F G w ≡ (λ x. max_to (λ p. g p ⊕ (F p ⊕ G (x + (w - p)))) w)
unfolding join
merged g F G w e = fun_ext (λ x. ap (λ (f : ℕ → ℕ). max_to f w) (fun_ext (λ p. sym (rw (e p) (⊕_one _)))))

module _ (d : ℕ) (k : Walk) (rowd : ℕ → ℕ → ℕ) (free : (i p : ℕ) → k.gain i p ≡ 1) (finer : (j : ℕ) → Finer d (rowd j) (k.row j)) where
  run_finer : (m i j : ℕ) → Finer d (run (fine d k rowd) m i j) (run k m i j)
  unfolding run
  run_finer zero i j = finer j
  run_finer (suc m) i j =
      pick_finer d (eqb j (k.par i))
      (subst₂ (Finer d)
      (merged (λ p. 1) (run (fine d k rowd) m (suc i) i) (run (fine d k rowd) m (suc i) (k.par i)) (d * k.wide i) (λ p. refl))
      (merged (k.gain i) (run k m (suc i) i) (run k m (suc i) (k.par i)) (k.wide i) (free i))
      (join_finer d _ _ _ _ (k.wide i) (run_finer m (suc i) i) (run_finer m (suc i) (k.par i))))
      (run_finer m (suc i) j)

  -- where there is a total in d-ths there is one in whole units, and d times that is no less
  pub run_no_more : 1 ≤ d → (m : ℕ) → run (fine d k rowd) m 1 0 0 ≢ 0
      → (run k m 1 0 0 ≢ 0) × (pred (run (fine d k rowd) m 1 0 0) ≤ d * pred (run k m 1 0 0))
  run_no_more h m n =
      let mixed = run_finer m 1 0 0 0 d 0 (omega arith) h (omega (arith, mul-zero d)) n in
      (mixed.low, omega (arith, mixed.under, zero-mul (pred (run k m 1 0 1))))
