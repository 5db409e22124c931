-- The links as they are kept: the neighbours, line by line, and the capacity of a line. Assumes nothing.
use mathlib.Core.Path.{◌≡◌, refl, sym, ap, ◌∙◌, subst}
use mathlib.Core.Bool.{Bool, true, false, cond}
use mathlib.Core.List.{List, [], ◌∷◌}
use Prim.Native.Nat.{ℕ, suc, ◌+◌, ◌-◌, ◌≤◌, ◌<◌}
use native.Mathlib.Omega.{arith}
use lib.IntN.{pos, nat_abs}
use Rattle.std.specs.Prelude.{find, Some, MatchOption}
use Rattle.numbers.specs.inner.Held.{units}
use lib.ListN.{length, get_or, drop, replicate, get_or-replicate}
use Rattle.std.proofs.Math.Seq.{drop-cons}
use Rattle.std.proofs.lemmas.List.{drop_all}
use native.Mathlib.Numerals.{add-one}
use Rattle.network.specs.declared.bits.Members.{Members}
use Rattle.problem.specs.Problem.{joins}
use Rattle.network.specs.inner.Walks.{add_masks, Masks}
use Rattle.network.proofs.Near.{Near, near_none, near_link, near_done}
use Rattle.market.specs.declared.line.Line.{Line}
use Rattle.market.specs.inner.Feeders.{capacity_of}
use Rattle.market.specs.inner.Lines.{link_in, kept}

-- ---- the lines from line i on, of which x is the first

pub kept_rest : (s : List Line) (i : ℕ) (x : Line) → i < length s → x ≡ get_or s i x → kept (drop i s) ≡ link_in x ∷ kept (drop (i + 1) s)
kept_rest s i x l e =
    ap kept (drop-cons s i x l) ∙ ap (λ (y : Line). link_in y ∷ kept (drop (suc i) s)) (sym e) ∙ ap (λ (k : ℕ). link_in x ∷ kept (drop k s)) (sym (add-one i))

pub kept_end : (s : List Line) (i : ℕ) → length s ≤ i → kept (drop i s) ≡ []
kept_end s i l = ap kept (drop_all i s l)

-- ---- the neighbours of the lines before line i, and those that are left

pub record Nearing (s : List Line) (adj : List Members) (i : ℕ) : Type 0 where
  pub long : length adj ≡ 32
  pub near : Near (kept s) adj (kept (drop i s))

pub nearing_none : (s : List Line) → Nearing s (replicate 32 (record { 0 = 0 })) 0
nearing_none s = record {
  long = refl;
  near = near_none (kept s) (replicate 32 (record { 0 = 0 })) (λ v l. ap (λ (m : Members). m.0) (get_or-replicate {A = Members} 32 v (record { 0 = 0 }) (record { 0 = 0 }) l));
}

pub nearing_more : (s : List Line) (adj next : List Members) (i : ℕ) (x : Line) → i < length s → x ≡ get_or s i x → length next ≡ 32 → next ≡ add_masks adj (x.ends.a.0 - 1) (x.ends.b.0 - 1)
    → Nearing s adj i → Nearing s next (i + 1)
nearing_more s adj next i x l e long m N =
    let ends = x.ends.numbered in
    record {
      long = long;
      near =
          subst (λ (a : List Members). Near (kept s) a (kept (drop (i + 1) s))) (sym m)
          (near_link adj (link_in x) ends.0.0 ends.1.0 (omega (arith, ends.0.1, N.long)) (omega (arith, ends.1.1, N.long)) (kept s) (kept (drop (i + 1) s))
          (subst (Near (kept s) adj) (kept_rest s i x l e) N.near));
    }

pub nearing_all : (s : List Line) (adj : List Members) (i : ℕ) → length s ≤ i → Nearing s adj i → Masks adj (kept s)
nearing_all s adj i l N = near_done (kept s) adj (subst (Near (kept s) adj) (kept_end s i l) N.near)

-- ---- the capacity between u and v is that of the first line between them
pub capacity_found : (s : List Line) (u v : ℕ) → MatchOption (find (λ x. joins (link_in x) u v) s) (units (pos 0) ≡ units (pos (capacity_of (kept s) u v)))
    (λ x. x.capacity ≡ units (pos (capacity_of (kept s) u v)))
unfolding capacity_of
capacity_found [] u v = refl
capacity_found (x ∷ s) u v = go (joins (link_in x) u v) (capacity_found s u v)
  where
    go : (b : Bool) → MatchOption (find (λ y. joins (link_in y) u v) s) (units (pos 0) ≡ units (pos (capacity_of (kept s) u v))) (λ y. y.capacity ≡ units (pos (capacity_of (kept s) u v)))
        → MatchOption (cond b (Some x) (find (λ y. joins (link_in y) u v) s)) (units (pos 0) ≡ units (pos (cond b (nat_abs x.capacity.0) (capacity_of (kept s) u v))))
        (λ y. y.capacity ≡ units (pos (cond b (nat_abs x.capacity.0) (capacity_of (kept s) u v))))
    go true ih = ap units x.counted
    go false ih = ih

pub capacity_low : (s : List Line) (u v : ℕ) → capacity_of (kept s) u v ≤ 40
unfolding capacity_of
capacity_low [] u v = omega arith
capacity_low (x ∷ s) u v = go (joins (link_in x) u v) (capacity_low s u v)
  where
    go : (b : Bool) → capacity_of (kept s) u v ≤ 40 → cond b (nat_abs x.capacity.0) (capacity_of (kept s) u v) ≤ 40
    go true ih = x.small
    go false ih = ih
