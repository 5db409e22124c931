-- What a table is worth in d-ths lies under the line between its worths at the whole units on both sides; and its limit in d-ths is d
-- times its own. Assumes nothing.
use mathlib.Core.Path.{◌≡◌, refl, sym, ap, ap₂, ◌∙◌, subst}
use mathlib.Core.Logic.{◌≢◌}
use mathlib.Core.Bool.{Bool, true, false, cond}
use mathlib.Core.List.{List, [], ◌∷◌, map, Memᴰ}
use mathlib.Core.Option.{Option, none, some}
use Prim.Native.Nat.{ℕ, suc, ◌+◌, ◌*◌, ◌≤◌, ◌<◌, pred}
use native.Mathlib.Nat.{mul-add, mul-suc, mul-zero, mul-le-mul_left, lt_of_mul-lt-mul_left, le_of_suc-le-suc}
use native.Mathlib.Omega.{arith}
use lib.IntN.{ℤ, pos, nat_abs, ◌+ℤ◌, ◌-ℤ◌, ◌*ℤ◌}
use lib.Signed.{◌≤ℤ◌}
use Rattle.numbers.specs.Whole.{eq_z, within}
use borrow.Author.Differences.{up, down}
use Rattle.std.proofs.lemmas.Int.{ints, unsigned_abs-mul}
use Rattle.numbers.proofs.Tests.{eq_z_true, eq_z_same, within_true, true_within}
use Rattle.numbers.proofs.Times.{times_plus, times_swap, plus_times}
use Rattle.problem.specs.Problem.{Terms, Offer, worth, value}
use Rattle.problem.specs.Fractions.{terms_in, offer_in}
use Rattle.problem.proofs.Values.{Tops, value_given, value_highest}
use Rattle.problem.proofs.Prices.{cell_of, Priced}
use Rattle.problem.proofs.Spans.{limit_of, limit, priced_limit}
use Rattle.problem.proofs.Choices.{apart}
use Rattle.problem.proofs.Wholes.{line_times}
use Rattle.problem.proofs.Finer.{Mixed, Finer, scale_le}

-- ---- the limit of a table in d-ths

module _ (d : ℕ) where
  limit_of_lem : (t : Terms) → limit_of (terms_in d t) ≡ d * limit_of t
  unfolding limit_of terms_in
  limit_of_lem (Terms.point units price) = unsigned_abs-mul (pos d) price
  limit_of_lem (Terms.span low high slope base) =
      ap₂ ◌+◌ (end low) (end high) ∙ sym (mul-add d (nat_abs ((slope *ℤ low) +ℤ base)) (nat_abs ((slope *ℤ high) +ℤ base)))
    where
      end : (x : ℤ) → nat_abs ((slope *ℤ (pos d *ℤ x)) +ℤ (pos d *ℤ base)) ≡ d * nat_abs ((slope *ℤ x) +ℤ base)
      end x = ap nat_abs (line_times d slope x base) ∙ unsigned_abs-mul (pos d) ((slope *ℤ x) +ℤ base)

  limit_in : (os : List Offer) → limit (map (offer_in d) os) ≡ d * limit os
  unfolding limit
  limit_in [] = sym (mul-zero d)
  limit_in (o ∷ os) = ap₂ ◌+◌ (limit_of_lem o.terms) (limit_in os) ∙ sym (mul-add d (limit_of o.terms) (limit os))

  pub priced_in : (os : List Offer) → Priced (d * limit os) (map (offer_in d) os)
  priced_in os = subst (λ (B : ℕ). Priced B (map (offer_in d) os)) (limit_in os) (priced_limit (map (offer_in d) os))

-- ---- one offer

-- z d-ths are X units less r d-ths
abbrev Less : ℕ → ℤ → ℤ → ℕ → Type 0
Less d z X r = up z + (r + d * down X) ≡ down z + d * up X

-- X1 is one unit less than X
abbrev OneLess : ℤ → ℤ → Type 0
OneLess X1 X = up X1 + suc (down X) ≡ down X1 + up X

-- the worth p in d-ths is a times the worth at X and r times that at X1, both being there where they count
record Split (t : Terms) (X X1 : ℤ) (a r : ℕ) (p : ℤ) : Type 0 where
  pub near : ℤ
  pub far : ℤ
  pub at_near : worth t X ≡ some near
  pub at_far : r ≢ 0 → worth t X1 ≡ some far
  pub splits : p ≡ (pos a *ℤ near) +ℤ (pos r *ℤ far)

module _ (d a r : ℕ) (e : a + r ≡ d) (ha : 1 ≤ a) (z X X1 : ℤ) (less : Less d z X r) (under : OneLess X1 X) where
  -- whole units in order, where their d-ths are but for less than a unit
  units_le : (x y k : ℕ) → k < d → d * x ≤ d * y + k → x ≤ y
  units_le x y k h l = le_of_suc-le-suc (lt_of_mul-lt-mul_left d (omega (arith, mul-suc d y)))

  -- the whole units on both sides are within the ends
  near_high : (h : ℤ) → z ≤ℤ (pos d *ℤ h) → X ≤ℤ h
  near_high h l = let k = units_le (up X + down h) (up h + down X) r (omega arith) (omega (arith, ints)) in omega (arith, ints)

  near_low : (l : ℤ) → (pos d *ℤ l) ≤ℤ z → l ≤ℤ X
  near_low l h = let k = units_le (up l + down X) (up X + down l) 0 (omega arith) (omega (arith, ints)) in omega (arith, ints)

  far_low : (l : ℤ) → (pos d *ℤ l) ≤ℤ z → r ≢ 0 → l ≤ℤ X1
  far_low l h n = let k = units_le (suc (up l + down X)) (up X + down l) a (omega arith) (omega (arith, ints)) in omega (arith, ints)

  far_high : (h : ℤ) → z ≤ℤ (pos d *ℤ h) → X1 ≤ℤ h
  far_high h l = let k = near_high h l in omega (arith, ints)

  -- z, and the price on a span's line there, are a times what they are at X and r times what they are at X1
  z_splits : z ≡ (pos a *ℤ X) +ℤ (pos r *ℤ X1)
  z_splits =
      let f = ap (λ (k : ℕ). k * up X) e in
      let g = ap (λ (k : ℕ). k * down X) e in
      let h = ap (λ (k : ℕ). r * k) under in
      omega (arith, ints)

  d_splits : (b : ℤ) → pos d *ℤ b ≡ (pos a *ℤ b) +ℤ (pos r *ℤ b)
  d_splits b = ap (λ (k : ℕ). pos k *ℤ b) (sym e) ∙ plus_times (pos a) (pos r) b

  line_splits : (s b : ℤ) → (s *ℤ z) +ℤ (pos d *ℤ b) ≡ (pos a *ℤ ((s *ℤ X) +ℤ b)) +ℤ (pos r *ℤ ((s *ℤ X1) +ℤ b))
  line_splits s b =
      ap₂ ◌+ℤ◌
      (ap (λ (y : ℤ). s *ℤ y) z_splits ∙ times_plus s (pos a *ℤ X) (pos r *ℤ X1) ∙ ap₂ ◌+ℤ◌ (times_swap s a X) (times_swap s r X1))
      (d_splits b)
      ∙ omega (arith, ints)
      ∙ sym (ap₂ ◌+ℤ◌ (times_plus (pos a) (s *ℤ X) b) (times_plus (pos r) (s *ℤ X1) b))

  between : (t : Terms) (p : ℤ) → worth (terms_in d t) z ≡ some p → Split t X X1 a r p
  unfolding worth terms_in
  between (Terms.point units price) p = go (eq_z z (pos d *ℤ units)) refl
    where
      go : (b : Bool) → eq_z z (pos d *ℤ units) ≡ b → cond b (some (pos d *ℤ price)) none ≡ some p → Split (Terms.point units price) X X1 a r p
      go false t q = cc
      go true t q =
          let s : z ≡ pos d *ℤ units = eq_z_true z (pos d *ℤ units) t in
          let lo : (pos d *ℤ units) ≤ℤ z = omega (arith, ints) in
          let hi : z ≤ℤ (pos d *ℤ units) = omega (arith, ints) in
          let x : X ≡ units = omega (arith, ints, near_low units lo, near_high units hi) in
          record {
            near = price;
            far = price;
            at_near = ap (λ (b : Bool). cond b (some price) none) (eq_z_same X units x);
            at_far = λ n. absurd (omega (arith, ints, far_low units lo n, near_high units hi));
            splits = let e = d_splits price in cc;
          }
  between (Terms.span low high slope base) p = go (within (pos d *ℤ low) (pos d *ℤ high) z) refl
    where
      go : (b : Bool) → within (pos d *ℤ low) (pos d *ℤ high) z ≡ b → cond b (some ((slope *ℤ z) +ℤ (pos d *ℤ base))) none ≡ some p
          → Split (Terms.span low high slope base) X X1 a r p
      go false t q = cc
      go true t q =
          let i = within_true (pos d *ℤ low) (pos d *ℤ high) z t in
          record {
            near = (slope *ℤ X) +ℤ base;
            far = (slope *ℤ X1) +ℤ base;
            at_near = ap (λ (b : Bool). cond b (some ((slope *ℤ X) +ℤ base)) none) (true_within low high X (near_low low i.0) (near_high high i.1));
            at_far = λ n. ap (λ (b : Bool). cond b (some ((slope *ℤ X1) +ℤ base)) none) (true_within low high X1 (far_low low i.0 n) (far_high high i.1));
            splits = let e = line_splits slope base in cc;
          }

-- ---- a table's cell

given_in : (d : ℕ) (os : List Offer) (j : ℕ) (z p : ℤ) (o : Offer) → Memᴰ o (map (offer_in d) os) → j ≡ o.member → worth o.terms z ≡ some p
    → (w : Offer) × Memᴰ w os × (j ≡ w.member) × (worth (terms_in d w.terms) z ≡ some p)
given_in d [] j z p o mem e g = elim mem [ ]
given_in d (w ∷ os) j z p o (Memᴰ.head q) e g =
    (w, Memᴰ.head refl, e ∙ ap (λ (x : Offer). x.member) q, ap (λ (x : Offer). worth x.terms z) (sym q) ∙ g)
given_in d (w ∷ os) j z p o (Memᴰ.tail mem) e g =
    let i = given_in d os j z p o mem e g in
    (i.0, Memᴰ.tail i.1, i.2, i.3)

tops_cell : (B : ℕ) (v : Option ℤ) (q : ℤ) → Tops v q → (cell_of B v ≢ 0) × (up (q +ℤ pos B) ≤ pred (cell_of B v))
unfolding cell_of
tops_cell B none q h = absurd h
tops_cell B (some p) q h =
    (λ e. omega arith, omega (arith, ints, apart))

-- a table's cell is no lower than that of an offer in it
offer_cell : (B : ℕ) (os : List Offer) (j : ℕ) (o : Offer) → Memᴰ o os → j ≡ o.member → (x q : ℤ) → worth o.terms x ≡ some q
    → (cell_of B (value os j x) ≢ 0) × (up (q +ℤ pos B) ≤ pred (cell_of B (value os j x)))
offer_cell B os j o mem e x q g = tops_cell B (value os j x) q (subst (λ (w : ℕ). Tops (value os w x) q) (sym e) (value_highest os o mem x q g))

mix_cell : (B a r : ℕ) (q s : ℤ) → up (((pos a *ℤ q) +ℤ (pos r *ℤ s)) +ℤ pos ((a + r) * B)) ≤ a * up (q +ℤ pos B) + r * up (s +ℤ pos B)
mix_cell B a r q s =
    let hq : up q + B ≤ up (q +ℤ pos B) + down q = omega (arith, ints) in
    let hs : up s + B ≤ up (s +ℤ pos B) + down s = omega (arith, ints) in
    omega (arith, ints, apart, mul-le-mul_left a hq, mul-le-mul_left r hs)

-- the cell of an offer's worth in d-ths is under the line between the table's cells at X and X1
offer_mixed : (B d a r : ℕ) → a + r ≡ d → (os : List Offer) (j : ℕ) (o : Offer) → Memᴰ o os → j ≡ o.member → (W t : ℕ) (p : ℤ)
    → Split o.terms (pos W -ℤ pos t) (pos W -ℤ pos (suc t)) a r p → Mixed (λ x. cell_of B (value os j (pos W -ℤ pos x))) t a r (up (p +ℤ pos (d * B)))
offer_mixed B d a r e os j o mem by W t p b =
    let X = pos W -ℤ pos t in
    let X1 = pos W -ℤ pos (suc t) in
    let c0 = offer_cell B os j o mem by X b.near b.at_near in
    let c1 : r ≢ 0 → (cell_of B (value os j X1) ≢ 0) × (up (b.far +ℤ pos B) ≤ pred (cell_of B (value os j X1))) =
    λ n. offer_cell B os j o mem by X1 b.far (b.at_far n) in
    record {
      low = c0.0;
      high = λ n. (c1 n).0;
      under =
          rw (b.splits, ← e)
          (omega (
            arith,
            mix_cell B a r b.near b.far,
            mul-le-mul_left a c0.1,
            scale_le r (up (b.far +ℤ pos B)) (pred (cell_of B (value os j X1))) (λ n. (c1 n).1),
          ));
    }

-- index x of a row stands for the net W - x, in d-ths for d W - x
pub cell_finer : (B d : ℕ) (os : List Offer) (j W : ℕ)
    → Finer d (λ y. cell_of (d * B) (value (map (offer_in d) os) j (pos (d * W) -ℤ pos y))) (λ x. cell_of B (value os j (pos W -ℤ pos x)))
unfolding cell_of
cell_finer B d os j W y t a r e ha ey n = go (value (map (offer_in d) os) j z) refl n
  where
    z : ℤ
    z = pos (d * W) -ℤ pos y

    X : ℤ
    X = pos W -ℤ pos t

    less : Less d z X r
    less =
        let e : up X + t ≡ down X + W = omega (arith, ints) in
        omega (arith, ints, ap (λ (k : ℕ). d * k) e)

    under : OneLess (pos W -ℤ pos (suc t)) X
    under = omega (arith, ints)

    go : (v : Option ℤ) → value (map (offer_in d) os) j z ≡ v → cell_of (d * B) v ≢ 0 → Mixed (λ x. cell_of B (value os j (pos W -ℤ pos x))) t a r (pred (cell_of (d * B) v))
    go none s k = absurd (k refl)
    go (some p) s k =
        let g = value_given (map (offer_in d) os) j z p s in
        let i = given_in d os j z p g.offer g.among g.by g.gives in
        offer_mixed B d a r e os j i.0 i.1 i.2 W t p (between d a r e ha z X (pos W -ℤ pos (suc t)) less under i.0.terms p i.3)
