-- Whole units are among the fractions: ones are whole units, and a possible allocation is possible in d-ths, with d times the total.
-- Assumes nothing.
use mathlib.Core.Path.{◌≡◌, refl, sym, ap, ap₂, ◌∙◌}
use mathlib.Core.Bool.{Bool, true, false, cond, ◌&&◌}
use mathlib.Core.List.{List, [], ◌∷◌, map}
use mathlib.Core.Option.{Option, none, some}
use Prim.Native.Nat.{ℕ, zero, suc, ◌≤◌}
use native.Mathlib.Nat.{one-mul, mul-le-mul_left}
use lib.Dec.{eqb}
use lib.IntN.{ℤ, pos, ◌+ℤ◌, ◌-ℤ◌, ◌*ℤ◌, *ℤ-zero}
use lib.Signed.{le_z}
use Rattle.numbers.specs.Whole.{eq_z, within}
use native.Mathlib.Omega.{arith}
use Rattle.std.proofs.lemmas.Int.{ints, unsigned_abs-mul}
use Rattle.numbers.proofs.Tests.{eq_z_same, eq_z_true}
use Rattle.numbers.proofs.Times.{times_le, times_le_back, times_same, times_plus, times_minus, times_swap, one_times}
use Rattle.problem.specs.Problem.{Link, Terms, Offer, Market, bought, sold, net, worth, offered, higher, value, plus, total_to, total, InRange, Possible}
use Rattle.problem.specs.Fractions.{link_in, terms_in, offer_in, market_in, PossibleIn, flows_in}
use Rattle.problem.proofs.Flows.{share, net_more}

-- ---- in ones

ones_link : (l : Link) → link_in 1 l ≡ l
ones_link l = ap (λ (c : ℕ). record { a = l.a; b = l.b; capacity = c }) (one-mul l.capacity)

ones_terms : (t : Terms) → terms_in 1 t ≡ t
unfolding terms_in
ones_terms (Terms.point units price) = ap₂ Terms.point (one_times units) (one_times price)
ones_terms (Terms.span low high slope base) =
    ap₂ (λ (l h : ℤ). Terms.span l h slope (pos 1 *ℤ base)) (one_times low) (one_times high) ∙ ap (Terms.span low high slope) (one_times base)

ones_offer : (o : Offer) → offer_in 1 o ≡ o
ones_offer o = ap (λ (t : Terms). record { member = o.member; terms = t }) (ones_terms o.terms)

map_same : {A : Type 0} (f : A → A) → ((x : A) → f x ≡ x) → (xs : List A) → map f xs ≡ xs
map_same f h [] = refl
map_same f h (x ∷ xs) = ap₂ ◌∷◌ (h x) (map_same f h xs)

-- a market in ones is the market
pub ones : (m : Market) → market_in 1 m ≡ m
ones m =
    ap₂ (λ (ls : List Link) (os : List Offer). record { members = m.members; links = ls; offers = os })
    (map_same (link_in 1) ones_link m.links) (map_same (offer_in 1) ones_offer m.offers)

-- so what is possible in ones is what is possible
pub ones_possible : (m : Market) → PossibleIn 1 m ≡ Possible m
ones_possible m = ap Possible (ones m)

-- ---- nets in d-ths

module _ (d : ℕ) where
  share_times : (j : ℕ) (l : Link) (y : ℤ) → share j l (pos d *ℤ y) ≡ pos d *ℤ share j l y
  share_times j l y =
      ap₂ ◌-ℤ◌ (if_any (eqb j l.b)) (if_any (eqb j l.a)) ∙ sym (times_minus (pos d) (cond (eqb j l.b) y (pos 0)) (cond (eqb j l.a) y (pos 0)))
    where
      if_any : (b : Bool) → cond b (pos d *ℤ y) (pos 0) ≡ pos d *ℤ cond b y (pos 0)
      if_any true = refl
      if_any false = sym (*ℤ-zero (pos d))

  net_times : (j : ℕ) (ls : List Link) (ys : List ℤ) → net j (map (link_in d) ls) (flows_in d ys) ≡ pos d *ℤ net j ls ys
  unfolding net bought sold
  net_times j [] ys = sym (*ℤ-zero (pos d))
  net_times j (l ∷ ls) [] = sym (*ℤ-zero (pos d))
  net_times j (l ∷ ls) (y ∷ ys) =
      net_more j (link_in d l) (map (link_in d) ls) (pos d *ℤ y) (flows_in d ys) ∙ ap₂ ◌+ℤ◌ (share_times j l y) (net_times j ls ys)
      ∙ sym (times_plus (pos d) (share j l y) (net j ls ys)) ∙ sym (ap (λ (z : ℤ). pos d *ℤ z) (net_more j l ls y ys))

  range_times : {ls : List Link} {ys : List ℤ} → InRange ls ys → InRange (map (link_in d) ls) (flows_in d ys)
  range_times InRange.end = InRange.end
  range_times (InRange.flow {l = l} {y = y} h r) = InRange.flow {l = link_in d l} {y = pos d *ℤ y} (rw (unsigned_abs-mul (pos d) y) (mul-le-mul_left d h)) (range_times r)

  -- the price on a span's line in d-ths, for d times the units
  pub line_times : (slope x base : ℤ) → (slope *ℤ (pos d *ℤ x)) +ℤ (pos d *ℤ base) ≡ pos d *ℤ ((slope *ℤ x) +ℤ base)
  line_times slope x base = ap (λ (z : ℤ). z +ℤ (pos d *ℤ base)) (times_swap slope d x) ∙ sym (times_plus (pos d) (slope *ℤ x) base)

-- ---- values and totals in d-ths

unfoldable times : ℕ → Option ℤ → Option ℤ
times d none = none
times d (some p) = some (pos d *ℤ p)

module _ (d : ℕ) (from-1 : 1 ≤ d) where
  le_z_times : (x y : ℤ) → le_z (pos d *ℤ x) (pos d *ℤ y) ≡ le_z x y
  le_z_times x y = grind (arith, ints, times_le, times_le_back)

  eq_z_times : (x y : ℤ) → eq_z (pos d *ℤ x) (pos d *ℤ y) ≡ eq_z x y
  eq_z_times x y = grind (arith, ints, eq_z_true, eq_z_same, times_same d)

  -- a price or none, by a test
  if_times : (b : Bool) (p : ℤ) → cond b (some (pos d *ℤ p)) none ≡ times d (cond b (some p) none)
  unfolding times
  if_times true p = refl
  if_times false p = refl

  worth_times : (t : Terms) (x : ℤ) → worth (terms_in d t) (pos d *ℤ x) ≡ times d (worth t x)
  unfolding worth terms_in within
  worth_times (Terms.point units price) x = rw (eq_z_times x units) (if_times (eq_z x units) price)
  worth_times (Terms.span low high slope base) x =
      rw (le_z_times low x, le_z_times x high, line_times d slope x base) (if_times (le_z low x && le_z x high) ((slope *ℤ x) +ℤ base))

  offered_times : (o : Offer) (j : ℕ) (x : ℤ) → offered (offer_in d o) j (pos d *ℤ x) ≡ times d (offered o j x)
  unfolding offered times
  offered_times o j x = grind (arith, worth_times o.terms x)

  higher_times : (u v : Option ℤ) → higher (times d u) (times d v) ≡ times d (higher u v)
  unfolding higher times
  higher_times none v = refl
  higher_times (some p) none = refl
  higher_times (some p) (some q) = grind (arith, le_z_times q p)

  value_times : (os : List Offer) (j : ℕ) (x : ℤ) → value (map (offer_in d) os) j (pos d *ℤ x) ≡ times d (value os j x)
  unfolding value times
  value_times [] j x = refl
  value_times (o ∷ os) j x = ap₂ higher (offered_times o j x) (value_times os j x) ∙ higher_times (offered o j x) (value os j x)

  sum_times : (u v : Option ℤ) → plus (times d u) (times d v) ≡ times d (plus u v)
  unfolding plus times
  sum_times none v = refl
  sum_times (some p) none = refl
  sum_times (some p) (some q) = ap {B = Option ℤ} some (sym (times_plus (pos d) p q))

  total_times : (m : Market) (ys : List ℤ) (j : ℕ) → total_to (market_in d m) (flows_in d ys) j ≡ times d (total_to m ys j)
  unfolding total_to times
  total_times m ys zero = ap {B = Option ℤ} some (sym (*ℤ-zero (pos d)))
  total_times m ys (suc j) =
      ap₂ plus (total_times m ys j)
      (ap (value (map (offer_in d) m.offers) (suc j)) (net_times d (suc j) m.links ys) ∙ value_times m.offers (suc j) (net (suc j) m.links ys))
      ∙ sum_times (total_to m ys j) (value m.offers (suc j) (net (suc j) m.links ys))

  -- A whole-unit allocation, each flow times d, is possible in d-ths with d times its total.
  pub possible_in : (m : Market) (ys : List ℤ) (t : ℤ) → Possible m ys t → PossibleIn d m (flows_in d ys) (pos d *ℤ t)
  unfolding total times
  possible_in m ys t p = record { within = range_times d p.within; totals = total_times m ys m.members ∙ ap (times d) p.totals }
