-- THE THEOREM on fractions: on a market whose links are a tree, no allocation in d-ths totals more than the whole-unit answer, and where
-- there is no whole-unit allocation there is none in d-ths. Assumes nothing.
use mathlib.Core.Path.{◌≡◌, refl, sym, ap, ap₂, ◌∙◌, fun_ext, subst}
use mathlib.Core.Logic.{◌≢◌}
use mathlib.Core.List.{List, map}
use Prim.Native.Nat.{ℕ, ◌+◌, ◌*◌, ◌≤◌, pred}
use native.Mathlib.Nat.{mul-add, mul-le-mul_left, mul_left_comm}
use native.Mathlib.Omega.{arith}
use lib.ListN.{length, length-map}
use lib.IntN.{ℤ, pos, ◌-ℤ◌, ◌*ℤ◌}
use lib.Signed.{◌≤ℤ◌}
use borrow.Author.Differences.{up, down}
use Rattle.std.proofs.lemmas.Int.{ints}
use Rattle.problem.specs.Problem.{Market, value, Impossible, Best}
use Rattle.problem.specs.Fractions.{link_in, offer_in, market_in, PossibleIn, ImpossibleIn, HighestIn, flows_in}
use Rattle.problem.proofs.Tree.{Tree}
use Rattle.problem.proofs.Form.{Walk, run}
use Rattle.problem.proofs.Prices.{cell_of, Priced}
use Rattle.problem.proofs.Spans.{limit, priced_limit}
use Rattle.problem.proofs.Steps.{Hop, at_pos}
use Rattle.problem.proofs.Places.{from_pos}
use Rattle.problem.proofs.Arrange.{parent, member}
use Rattle.problem.proofs.Cleared.{up_of, down_of, top_of, form, best, choices, flows_of, clear_none, clear_some}
use Rattle.problem.proofs.Wholes.{possible_in}
use Rattle.problem.proofs.Alike.{tree_alike, stops_alike, up_times, down_times, top_times}
use Rattle.problem.proofs.Finer.{fine, run_no_more}
use Rattle.problem.proofs.Between.{priced_in, cell_finer}

module _ (m : Market) (R : Tree m) (d : ℕ) (from-1 : 1 ≤ d) where
  -- no price is below -B, and none in d-ths below -dB
  abbrev B : ℕ
  B = limit m.offers

  P : Priced B m.offers
  P = priced_limit m.offers

  abbrev dths : Market
  dths = market_in d m

  -- ---- in walk form the market in d-ths is the whole-unit one, made finer

  abbrev row : ℕ → ℕ → ℕ
  row j x = cell_of (d * B) (value (map (offer_in d) m.offers) (member m j) (pos (d * top_of m j) -ℤ pos x))

  shaped : (ℕ → ℕ) → (ℕ → ℕ) → (ℕ → ℕ → ℕ) → Walk
  shaped p w r = record { par = p; wide = w; gain = λ i q. 1; row = r }

  form_fine : form (d * B) dths ≡ fine d (form B m) row
  unfolding shaped
  form_fine =
      ap₂ (λ (s : List Hop) (t : ℕ → ℕ). shaped (from_pos s) (λ i. up_of dths i + down_of dths i) (λ j x. cell_of (d * B) (value dths.offers (at_pos s j) (pos (t j) -ℤ pos x))))
      (stops_alike d m) (fun_ext (top_times d m))
      ∙ ap (λ (w : ℕ → ℕ). shaped (parent m) w row)
      (fun_ext (λ i. ap₂ ◌+◌ (up_times d m i) (down_times d m i) ∙ sym (mul-add d (up_of m i) (down_of m i))))

  best_no_more : best (d * B) dths ≢ 0 → (best B m ≢ 0) × (pred (best (d * B) dths) ≤ d * pred (best B m))
  best_no_more =
      subst (λ (v : ℕ). v ≢ 0 → (best B m ≢ 0) × (pred v ≤ d * pred (best B m)))
      (sym (ap₂ (λ (k : Walk) (E : ℕ). run k E 1 0 0) form_fine (length-map m.links (link_in d))))
      (run_no_more d (form B m) row (λ i p. refl) (λ j. cell_finer B d m.offers (member m j) (top_of m j)) from-1 (length m.links))

  -- ---- the theorem

  module _ (zs : List ℤ) (u : ℤ) (p : PossibleIn d m zs u) where
    there : best (d * B) dths ≢ 0
    there z = clear_none (d * B) dths (tree_alike d m R) (priced_in d m.offers) z zs u p

    found : Best m (flows_of m (choices B m)) (pos (pred (best B m)) -ℤ pos (m.members * B))
    found = clear_some B m R P (pred (best B m)) (omega (arith, (best_no_more there).0))

    under : u ≤ℤ (pos (pred (best (d * B) dths)) -ℤ pos (m.members * (d * B)))
    under = (clear_some (d * B) dths (tree_alike d m R) (priced_in d m.offers) (pred (best (d * B) dths)) (omega (arith, there))).highest zs u p

  -- Where no whole-unit allocation exists, no fractional one does.
  pub fractions_impossible : Impossible m → ImpossibleIn d m
  fractions_impossible h zs u p = h _ _ (found zs u p).possible

  -- No possible allocation in d-ths totals more than the whole-unit answer.
  pub fractions_no_more : (ys : List ℤ) (t : ℤ) → Best m ys t → (zs : List ℤ) (u : ℤ) → PossibleIn d m zs u → u ≤ℤ (pos d *ℤ t)
  fractions_no_more ys t b zs u p =
      let c = pred (best B m) in
      let N = m.members * B in
      let cost : c + down t ≤ up t + N = let h = b.highest _ _ (found zs u p).possible in omega (arith, ints) in
      let h = under zs u p in
      omega (arith, ints, (best_no_more (there zs u p)).1, mul-le-mul_left d cost, mul_left_comm m.members d B)

  -- So the best in d-ths is the whole-unit answer, as d-ths.
  pub fractions_highest : (ys : List ℤ) (t : ℤ) → Best m ys t → HighestIn d m (flows_in d ys) (pos d *ℤ t)
  fractions_highest ys t b = record { possible = possible_in d from-1 m ys t b.possible; highest = fractions_no_more ys t b }
