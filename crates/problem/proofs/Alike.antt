-- A market in d-ths is on the same tree: its links have the same ends, so that its walk is the same, and what a position's link carries,
-- and the net that its index 0 stands for, are d times what they were. Assumes nothing.
use mathlib.Core.Path.{◌≡◌, refl, sym, ap, ap₂, ◌∙◌, fun_ext}
use mathlib.Core.Bool.{Bool, true, false, not, ◌&&◌, ◌||◌}
use mathlib.Core.List.{List, [], ◌∷◌, map}
use mathlib.Core.Option.{Option, some}
use Prim.Native.Nat.{ℕ, zero, suc, ◌+◌, ◌*◌}
use native.Mathlib.Nat.{mul-add, mul-zero}
use lib.Dec.{eqb, ltb}
use lib.ListN.{length, length-map}
use Rattle.problem.specs.Problem.{Link, Market, joins, neighbours, lowest}
use Rattle.problem.specs.Fractions.{link_in, market_in}
use Rattle.problem.proofs.Tree.{Tree, Open, Within}
use Rattle.problem.proofs.Links.{joined_along}
use Rattle.problem.proofs.Max.{pick}
use Rattle.problem.proofs.Perm.{fold}
use Rattle.problem.proofs.Steps.{Hop, at_pos, reached, free, or_else, on_from, extend, hops}
use Rattle.problem.proofs.Places.{from_pos}
use Rattle.problem.proofs.Arrange.{link_at, place_of, stops, parent, link_of, lower_of}
use Rattle.problem.proofs.Cleared.{forth, back, up_of, down_of, top_of}
use Rattle.problem.proofs.Transfer.{behind, around}
use Rattle.problem.proofs.Choices.{up_cap}

module _ (d : ℕ) where
  -- ---- the tree

  neighbours_alike : (ls : List Link) (u v : ℕ) → neighbours (map (link_in d) ls) u v ≡ neighbours ls u v
  neighbours_alike [] u v = refl
  neighbours_alike (l ∷ ls) u v = ap (λ (b : Bool). joins l u v || b) (neighbours_alike ls u v)

  open_alike : (earlier ls : List Link) → Open earlier ls → Open (map (link_in d) earlier) (map (link_in d) ls)
  open_alike earlier [] o = tt
  open_alike earlier (l ∷ ls) o = (λ j. o.0 (joined_along (λ x y h. sym (neighbours_alike earlier x y) ∙ h) j), open_alike (l ∷ earlier) ls o.1)

  within_alike : (n : ℕ) (ls : List Link) → Within n ls → Within n (map (link_in d) ls)
  within_alike n [] w = tt
  within_alike n (l ∷ ls) w = (w.0, within_alike n ls w.1)

  pub tree_alike : (m : Market) → Tree m → Tree (market_in d m)
  tree_alike m R = record {
    some_member = R.some_member;
    within = within_alike m.members m.links R.within;
    ringless = open_alike [] m.links R.ringless;
    whole = λ v h l. joined_along (λ x y k. neighbours_alike m.links x y ∙ k) (R.whole v h l);
  }

  -- ---- the walk

  free_alike : (ls : List Link) (seen : List Hop) (v : ℕ) → free (map (link_in d) ls) seen v ≡ free ls seen v
  free_alike ls seen v = fun_ext (λ w. ap (λ (b : Bool). b && not (reached seen w)) (neighbours_alike ls v w))

  on_alike : (ls : List Link) (n : ℕ) (seen : List Hop) (k : ℕ) → on_from (map (link_in d) ls) n seen k ≡ on_from ls n seen k
  unfolding on_from
  on_alike ls n seen zero = refl
  on_alike ls n seen (suc k) =
      ap₂ (λ (f : ℕ → Bool) (o : Option Hop). or_else (ltb (lowest f n) n) (some (record { at = lowest f n; from = k })) o)
      (free_alike ls seen (at_pos seen k)) (on_alike ls n seen k)

  hops_alike : (ls : List Link) (n k : ℕ) → hops (map (link_in d) ls) n k ≡ hops ls n k
  unfolding hops
  hops_alike ls n zero = refl
  hops_alike ls n (suc k) =
      ap (λ (seen : List Hop). extend seen (on_from (map (link_in d) ls) n seen (suc (length seen)))) (hops_alike ls n k)
      ∙ ap (extend (hops ls n k)) (on_alike ls n (hops ls n k) (suc (length (hops ls n k))))

  place_alike : (ls : List Link) (u v : ℕ) → place_of (map (link_in d) ls) u v ≡ place_of ls u v
  unfolding place_of
  place_alike [] u v = refl
  place_alike (l ∷ ls) u v = ap (λ (k : ℕ). pick (joins l u v) 0 (suc k)) (place_alike ls u v)

  capacity_times : (ls : List Link) (e : ℕ) → (link_at (map (link_in d) ls) e).capacity ≡ d * (link_at ls e).capacity
  capacity_times [] e = sym (mul-zero d)
  capacity_times (l ∷ ls) zero = refl
  capacity_times (l ∷ ls) (suc e) = capacity_times ls e

  -- ---- d times as much around a position

  pick_times : (b : Bool) (x y : ℕ) {x' y' : ℕ} → x' ≡ d * x → y' ≡ d * y → pick b x' y' ≡ d * pick b x y
  pick_times true x y h k = h
  pick_times false x y h k = k

  behind_times : (f g : ℕ → ℕ) → ((e : ℕ) → g e ≡ d * f e) → (j : ℕ) → behind g j ≡ d * behind f j
  behind_times f g h zero = sym (mul-zero d)
  behind_times f g h (suc j) = h j

  fold_times : (f g : ℕ → ℕ) → ((e : ℕ) → g e ≡ d * f e) → (n : ℕ) → fold ◌+◌ 0 g n ≡ d * fold ◌+◌ 0 f n
  unfolding fold
  fold_times f g h zero = sym (mul-zero d)
  fold_times f g h (suc n) = ap₂ ◌+◌ (fold_times f g h n) (h n) ∙ sym (mul-add d (fold ◌+◌ 0 f n) (f n))

  around_times : (par U D U' D' : ℕ → ℕ) → ((i : ℕ) → U' i ≡ d * U i) → ((i : ℕ) → D' i ≡ d * D i) → (E j : ℕ) → around par U' D' E j ≡ d * around par U D E j
  unfolding around
  around_times par U D U' D' hU hD E j =
      let in-U : ℕ → ℕ = λ e. pick (eqb j (par (suc e))) (U (suc e)) 0 in
      ap₂ ◌+◌ (behind_times (λ e. D (suc e)) (λ e. D' (suc e)) (λ e. hD (suc e)) j)
      (fold_times in-U (λ e. pick (eqb j (par (suc e))) (U' (suc e)) 0) (λ e. pick_times (eqb j (par (suc e))) (U (suc e)) 0 (hU (suc e)) (sym (mul-zero d))) E)
      ∙ sym (mul-add d (behind (λ e. D (suc e)) j) (fold ◌+◌ 0 in-U E))

  module _ (m : Market) where
    pub stops_alike : stops (market_in d m) ≡ stops m
    stops_alike = hops_alike m.links (suc m.members) (suc m.members)

    link_alike : (i : ℕ) → link_of (market_in d m) i ≡ link_of m i
    link_alike i =
        ap (λ (w : List Hop). place_of (map (link_in d) m.links) (at_pos w i) (at_pos w (from_pos w i))) stops_alike
        ∙ place_alike m.links (at_pos (stops m) i) (at_pos (stops m) (parent m i))

    -- what links carry one way and the other, at a position
    cap_times : (f g f' g' : ℕ → ℕ) → ((e : ℕ) → f' e ≡ d * f e) → ((e : ℕ) → g' e ≡ d * g e)
        → (i : ℕ) → up_cap f' g' (link_of (market_in d m)) (lower_of (market_in d m)) i ≡ d * up_cap f g (link_of m) (lower_of m) i
    cap_times f g f' g' hf hg i =
        ap₂ (λ (w : List Hop) (e : ℕ). pick (ltb (at_pos w i) (at_pos w (from_pos w i))) (f' e) (g' e)) stops_alike (link_alike i)
        ∙ pick_times (lower_of m i) (f (link_of m i)) (g (link_of m i)) (hf (link_of m i)) (hg (link_of m i))

    pub up_times : (i : ℕ) → up_of (market_in d m) i ≡ d * up_of m i
    up_times = cap_times (forth m) (back m) (forth (market_in d m)) (back (market_in d m)) (capacity_times m.links) (capacity_times m.links)

    pub down_times : (i : ℕ) → down_of (market_in d m) i ≡ d * down_of m i
    down_times = cap_times (back m) (forth m) (back (market_in d m)) (forth (market_in d m)) (capacity_times m.links) (capacity_times m.links)

    pub top_times : (j : ℕ) → top_of (market_in d m) j ≡ d * top_of m j
    top_times j =
        ap₂ (λ (w : List Hop) (E : ℕ). around (from_pos w) (up_of (market_in d m)) (down_of (market_in d m)) E j) stops_alike (length-map m.links (link_in d))
        ∙ around_times (parent m) (up_of m) (down_of m) (up_of (market_in d m)) (down_of (market_in d m)) up_times down_times (length m.links) j
