-- On the starred files no result but the listed one is allowed; so the shams fall, and a repeated entry is no fault (K).
-- Assumes nothing.
use mathlib.Core.Path.{◌≡◌, ap}
use mathlib.Core.List.{List, [], ◌∷◌, ◌++◌}
use Prim.Native.Nat.{ℕ, ◌≤◌}
use native.Mathlib.Omega.{arith}
use lib.ListN.{length, drop, get_or}
use Rattle.clearing.specs.Promise.{Result}
use Rattle.clearing.specs.Starred.{Row, AllRight, starred}
use Rattle.clearing.specs.Starred as W
use Rattle.clearing.proofs.One.{only_one}
use Rattle.clearing.proofs.Starred.{all_right}

-- what is listed is the only result
abbrev pub Only : Row → Type 0
Only r = (before : List ℕ) → 48 ≤ length before → (k : ℕ) (after : List ℕ) → Result r.file before k after
    → (k ≡ r.number) × (after ≡ r.written ++ drop (length r.written) before)

abbrev pub AllOnly : List Row → Type 0
AllOnly [] = Unit {0}
AllOnly (r ∷ rs) = Only r × AllOnly rs

all_only : (rs : List Row) → AllRight rs → AllOnly rs
all_only [] h = tt
all_only (r ∷ rs) h = (λ before l k after p. only_one p (h.0 before l), all_only rs h.1)

pub only_starred : AllOnly starred
only_starred = all_only starred all_right

only_a : Only W.A
unfolding starred
only_a = only_starred.0

only_b : Only W.B
unfolding starred
only_b = only_starred.1.0

-- one that refuses everything
pub refuses_all : (before : List ℕ) → 48 ≤ length before → (k : ℕ) (after : List ℕ) → 65536 ≤ k → Result (W.A).file before k after → ⊥
unfolding W.A
refuses_all before l k after h p = let e : k ≡ 48 = (only_a before l k after p).0 in omega (arith, h, e)

-- byte i of what is written for a row
at : (i : ℕ) {xs ys : List ℕ} → xs ≡ ys → get_or xs i 0 ≡ get_or ys i 0
at i e = ap (λ (x : List ℕ). get_or x i 0) e

-- one that answers A and B alike: the totals 80 and 120 stand at byte 44
pub answers_alike : (before : List ℕ) → 48 ≤ length before → (k : ℕ) (after : List ℕ) → Result (W.A).file before k after → Result (W.B).file before k after → ⊥
unfolding W.A W.B W.bytes
answers_alike before l k after p q =
    let x : get_or after 44 0 ≡ 80 = at 44 (only_a before l k after p).1 in
    let y : get_or after 44 0 ≡ 120 = at 44 (only_b before l k after q).1 in
    omega (arith, x, y)

-- one that lets all stand idle on A: the flow 2 of the link 1-2 stands at byte 28
pub idles : (before : List ℕ) → 48 ≤ length before → (k : ℕ) (after : List ℕ) → get_or after 28 0 ≡ 0 → Result (W.A).file before k after → ⊥
unfolding W.A W.bytes
idles before l k after z p =
    let x : get_or after 28 0 ≡ 2 = at 28 (only_a before l k after p).1 in
    omega (arith, x, z)

-- one that writes nothing: an area of zeros does not become an answer by itself
pub writes_nothing : (before : List ℕ) → 48 ≤ length before → get_or before 0 0 ≡ 0 → (k : ℕ) → Result (W.A).file before k before → ⊥
unfolding W.A W.bytes
writes_nothing before l z k p =
    let x : get_or before 0 0 ≡ 3 = at 0 (only_a before l k before p).1 in
    omega (arith, x, z)
