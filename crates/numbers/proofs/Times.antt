-- Products of signed numbers, for `omega` with the kit's `ints`: a positive factor multiplies both parts of a number, sizes multiply, and a
-- product lies between two others. And the laws of products that the kit's integers leave out. Assumes nothing.
use mathlib.Core.Path.{◌≡◌, ap, ap₂, ◌∙◌}
use Prim.Native.Nat.{ℕ, suc, ◌+◌, ◌*◌, ◌^◌, ◌≤◌, ◌<◌}
use native.Mathlib.Nat.{mul-le-mul, mul-le-mul_left, le_of_mul-le-mul_left, eq_of_mul-eq-mul_left}
use native.Mathlib.Omega.{arith}
use borrow.Author.Differences.{up, down, sum_is_lem, product_is}
use Rattle.std.proofs.lemmas.Int.{ints, fits_signed_mul, unsigned_abs-mul}
use lib.IntN.{ℤ, pos, negsuc, neg_ℤ, nat_abs, ◌+ℤ◌, ◌-ℤ◌, ◌*ℤ◌, *ℤ_comm, -ℤ-+ℤ_cancel}
use lib.Signed.{◌≤ℤ◌, nat_abs-le}
use mir.Syntax.{w16, w32, w64}
use mir.Val.{SFits}

-- ---- a positive factor

pub times_le : (n : ℕ) {x y : ℤ} → x ≤ℤ y → (pos n *ℤ x) ≤ℤ (pos n *ℤ y)
times_le n {x} {y} h =
    let m : n * (up x + down y) ≤ n * (up y + down x) = mul-le-mul_left n (omega (arith, ints)) in
    omega (arith, ints)

-- and back, where the factor is not 0
pub times_le_back : (n : ℕ) (x y : ℤ) → 1 ≤ n → (pos n *ℤ x) ≤ℤ (pos n *ℤ y) → x ≤ℤ y
times_le_back n x y h l =
    let m : up x + down y ≤ up y + down x = le_of_mul-le-mul_left {k = n} (omega (arith, ints)) h in
    omega (arith, ints)

pub times_same : (n : ℕ) (x y : ℤ) → 1 ≤ n → pos n *ℤ x ≡ pos n *ℤ y → x ≡ y
times_same n x y h e =
    let u : up x + down y ≡ up y + down x = eq_of_mul-eq-mul_left n h _ _ (omega (arith, ints)) in
    omega (arith, ints)

-- ---- the size of a product, and what 64 bits hold

pub abs_between : (c : ℕ) (z : ℤ) → nat_abs z ≤ c → (neg_ℤ (pos c) ≤ℤ z) × (z ≤ℤ pos c)
abs_between c z h = (omega (arith, ints), omega (arith, ints))

pub product_fits : {s x : ℤ} → SFits w32 s → SFits w16 x → SFits w64 (s *ℤ x)
product_fits {s} {x} f g = fits_signed_mul w64 s x (2 ^ 31) (2 ^ 15) (nat_abs-le s f.sfits) (nat_abs-le x g.sfits) (omega arith)

pub line_fits : {s x b : ℤ} → SFits w32 s → SFits w16 x → SFits w32 b → SFits w64 ((s *ℤ x) +ℤ b)
line_fits {s} {x} {b} f g h =
    let m = mul-le-mul (nat_abs-le s f.sfits) (nat_abs-le x g.sfits) in
    let n = unsigned_abs-mul s x in
    omega (arith, ints)

pub less_fits : (z : ℤ) {s : ℤ} → nat_abs z < 2 ^ 62 → SFits w32 s → SFits w64 (z -ℤ s)
less_fits z {s} h f = omega (arith, ints)

-- ---- order of products

-- from the smaller to the greater product: the same way where s is 0 or more, else the other way
pub times_between : (s l x h : ℤ) → l ≤ℤ x → x ≤ℤ h
    → (P : ℤ → Type 0) → ((u v w : ℤ) → u ≤ℤ v → v ≤ℤ w → P u → P w → P v) → P (s *ℤ l) → P (s *ℤ h) → P (s *ℤ x)
times_between (pos n) l x h a b P between p q = between (pos n *ℤ l) (pos n *ℤ x) (pos n *ℤ h) (times_le n a) (times_le n b) p q
times_between (negsuc n) l x h a b P between p q =
    between (negsuc n *ℤ h) (negsuc n *ℤ x) (negsuc n *ℤ l) (back x h b) (back l x a) q p
  where
    back : (u v : ℤ) → u ≤ℤ v → (negsuc n *ℤ v) ≤ℤ (negsuc n *ℤ u)
    back u v k = let t = times_le (suc n) k in omega (arith, ints)

-- ---- laws of products

-- a factor into a sum
pub times_plus : (s u v : ℤ) → s *ℤ (u +ℤ v) ≡ (s *ℤ u) +ℤ (s *ℤ v)
times_plus s u v =
    let p = ap (λ (k : ℕ). up s * k) (sum_is_lem u v) in
    let n = ap (λ (k : ℕ). down s * k) (sum_is_lem u v) in
    omega (arith, ints)

-- a sum of factors
pub plus_times : (a r v : ℤ) → (a +ℤ r) *ℤ v ≡ (a *ℤ v) +ℤ (r *ℤ v)
plus_times a r v = *ℤ_comm (a +ℤ r) v ∙ times_plus v a r ∙ ap₂ ◌+ℤ◌ (*ℤ_comm v a) (*ℤ_comm v r)

pub times_minus : (s u v : ℤ) → s *ℤ (u -ℤ v) ≡ (s *ℤ u) -ℤ (s *ℤ v)
times_minus s u v = let t = rw (-ℤ-+ℤ_cancel u v) at (times_plus s (u -ℤ v) v) in omega (arith, ints)

pub one_times : (v : ℤ) → pos 1 *ℤ v ≡ v
one_times v = omega (arith, ints)

-- one less of the other factor
pub times_less : (s z : ℤ) → s *ℤ (z -ℤ pos 1) ≡ (s *ℤ z) -ℤ s
times_less s z = let t = times_minus s z (pos 1) in omega (arith, ints)

-- two factors the other way round
pub times_swap : (s : ℤ) (m : ℕ) (v : ℤ) → s *ℤ (pos m *ℤ v) ≡ pos m *ℤ (s *ℤ v)
times_swap s m v =
    let t = product_is (pos m) v in
    let p = ap (λ (k : ℕ). up s * k) t.0 in
    let n = ap (λ (k : ℕ). up s * k) t.1 in
    let p' = ap (λ (k : ℕ). down s * k) t.0 in
    let n' = ap (λ (k : ℕ). down s * k) t.1 in
    let q = ap (λ (k : ℕ). m * k) (product_is s v).0 in
    let q' = ap (λ (k : ℕ). m * k) (product_is s v).1 in
    omega (arith, ints)
