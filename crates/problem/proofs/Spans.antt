-- A price inside a span lies between its ends' prices, so that a table whose points and ends are in range is in range, and every
-- table has a limit: a number B, no price being below -B. Assumes nothing.
use mathlib.Core.List.{List, [], ◌∷◌}
use mathlib.Core.Option.{Option, none, some}
use Prim.Native.Nat.{ℕ, ◌+◌, ◌≤◌}
use native.Mathlib.Omega.{arith}
use lib.IntN.{ℤ, nat_abs, ◌+ℤ◌, ◌*ℤ◌}
use lib.Signed.{◌≤ℤ◌}
use Rattle.std.proofs.lemmas.Bool.{cond_both}
use Rattle.numbers.specs.Whole.{eq_z, within}
use Rattle.std.proofs.lemmas.Int.{ints}
use Rattle.numbers.proofs.Tests.{within_true}
use Rattle.numbers.proofs.Times.{abs_between, times_between}
use Rattle.problem.specs.Problem.{Terms, Offer, worth}
use Rattle.problem.proofs.Prices.{Low, Limited, limited_low, Priced, worths_map}

-- where the prices at both ends are from -B to B, so are those between
pub span_between : (B : ℕ) (low high slope base x : ℤ) → low ≤ℤ x → x ≤ℤ high
    → Limited B (some ((slope *ℤ low) +ℤ base)) → Limited B (some ((slope *ℤ high) +ℤ base)) → Limited B (some ((slope *ℤ x) +ℤ base))
span_between B low high slope base x a b =
    times_between slope low x high a b (λ z. Limited B (some (z +ℤ base)))
    (λ u v w h k p q. (omega (arith, ints), omega (arith, ints)))

pub point_limited : (B : ℕ) (units price : ℤ) → Limited B (some price) → (x : ℤ) → Limited B (worth (Terms.point units price) x)
unfolding worth
point_limited B units price h x = cond_both (eq_z x units) (some price) none (Limited B) (λ e. h) (λ e. tt)

pub span_limited : (B : ℕ) (low high slope base : ℤ) → Limited B (some ((slope *ℤ low) +ℤ base)) → Limited B (some ((slope *ℤ high) +ℤ base))
    → (x : ℤ) → Limited B (worth (Terms.span low high slope base) x)
unfolding worth
span_limited B low high slope base p q x =
    cond_both (within low high x) (some ((slope *ℤ x) +ℤ base)) none (Limited B)
    (λ e. let i = within_true low high x e in span_between B low high slope base x i.0 i.1 p q) (λ e. tt)

-- ---- a limit for every table

-- the size of a point's price, or those of a span's at its two ends together
unfoldable pub limit_of : Terms → ℕ
limit_of (Terms.point units price) = nat_abs price
limit_of (Terms.span low high slope base) = nat_abs ((slope *ℤ low) +ℤ base) + nat_abs ((slope *ℤ high) +ℤ base)

unfoldable pub limit : List Offer → ℕ
limit [] = 0
limit (o ∷ os) = limit_of o.terms + limit os

terms_limited : (t : Terms) (x : ℤ) → Limited (limit_of t) (worth t x)
unfolding limit_of
terms_limited (Terms.point units price) x = point_limited (nat_abs price) units price (abs_between (nat_abs price) price (omega arith)) x
terms_limited (Terms.span low high slope base) x =
    let p = (slope *ℤ low) +ℤ base in
    let q = (slope *ℤ high) +ℤ base in
    let B = nat_abs p + nat_abs q in
    span_limited B low high slope base (abs_between B p (omega arith)) (abs_between B q (omega arith)) x

low_more : {B C : ℕ} → B ≤ C → (v : Option ℤ) → Low B v → Low C v
low_more h none l = tt
low_more h (some p) l = omega (arith, ints)

pub priced_limit : (os : List Offer) → Priced (limit os) os
unfolding limit
priced_limit [] = tt
priced_limit (o ∷ os) =
    let A = limit_of o.terms in
    let B = limit os in (
      λ x. low_more {B = A} {C = A + B} (omega arith) (worth o.terms x) (limited_low A (worth o.terms x) (terms_limited o.terms x)),
      worths_map (Low B) (Low (A + B)) (low_more (omega arith)) os (priced_limit os),
    )
