-- What the engine leaves of a market is its outcome. Assumes nothing.
use mathlib.Core.Path.{◌≡◌, refl, sym, ap, ap₂, ◌∙◌, fun_ext, subst}
use mathlib.Core.List.{List, ◌++◌}
use Prim.Native.Nat.{ℕ, zero, suc, ◌+◌, ◌-◌, ◌*◌, ◌≤◌, ◌<◌, ◌^◌}
use native.Mathlib.Omega.{arith}
use lib.Dec.{lit<}
use lib.ListN.{length, get_or, drop}
use lib.IntN.{ℤ, pos, ◌-ℤ◌}
use Rattle.std.specs.Prelude.{Err, IfErr, IfNone}
use Rattle.std.specs.Prelude as Std
use Rattle.problem.specs.Problem.{Market, Offer, Best, value}
use Rattle.problem.specs.Problem as P
use Rattle.problem.proofs.Tree.{Tree}
use Rattle.problem.proofs.Form.{Walk, run, picks}
use Rattle.problem.proofs.Answer.{start}
use Rattle.problem.proofs.Closed.{indices}
use Rattle.problem.proofs.Prices.{Priced, cell_of}
use Rattle.problem.proofs.Table.{tab, tab_bound}
use Rattle.problem.proofs.Flows.{as_many, sent_place}
use Rattle.problem.proofs.Arrange.{parent, member, near, steps, one_fewer, arranged}
use Rattle.problem.proofs.Cleared.{up_of, down_of, form, choices, flows_of, sends_at, choices_fit, net_at, clear_none, clear_some}
use Rattle.problem.proofs.Cleared as C
use Rattle.network.specs.declared.Feeder.{Feeder}
use Rattle.network.specs.inner.Feeders.{member_at, parent_at}
use Rattle.records.specs.Records.{entries}
use Rattle.records.specs.Market.{offers_of}
use Rattle.records.specs.Answer.{answer_of}
use Rattle.rows.proofs.Gives.{priced, cell_bound}
use Rattle.records.specs.declared.Rule.TheVariants as Rule
use Rattle.records.specs.inner.Cases.{number_of}
use Rattle.engine.specs.declared.Solution.{Solution}
use Rattle.engine.specs.inner.Words.{sent_in, walk_of, top_of, own_of, best_of, Solved, Unsolved}
use Rattle.answer.specs.inner.Words.{Settles}
use Rattle.clearing.specs.Outcome.{code, Outcome}
use Rattle.clearing.specs.Outcome.Outcome.{nothing, cleared}
use Rattle.clearing.specs.inner.Words.{Held, returned}
use Rattle.clearing.proofs.Agree.{run_same, picks_same, indices_same}

module _ {m : Market} {f : Feeder} {records : List ℕ} (H : Held m f records) where
  abbrev R : Tree m
  R = H.laid.tree

  abbrev os : List Offer
  os = offers_of (entries records)

  prices : Priced 1000000 m.offers
  prices = subst (Priced 1000000) (sym H.tables) (priced records)

  count : f.members ≡ m.members
  count = H.laid.members

  links : f.members - 1 ≡ length m.links
  links = omega (arith, one_fewer m R, count)

  -- ---- the feeder's walk is the market's form

  top_is : (v : ℕ) → top_of f v ≡ C.top_of m v
  unfolding top_of
  top_is v = rw (fun_ext H.laid.parent_is, fun_ext H.laid.toward_is, fun_ext H.laid.away_is, links)

  own_is : (v x : ℕ) → v < f.members → own_of f os v x ≡ (form 1000000 m).row v x
  unfolding own_of
  own_is v x l =
      ap₂ (λ (a t : ℕ). cell_of 1000000 (value os a (pos t -ℤ pos x))) (H.laid.member_is v l) (top_is v)
      ∙ ap (λ (o : List Offer). cell_of 1000000 (value o (member m v) (pos (C.top_of m v) -ℤ pos x))) (sym H.tables)

  -- with rows r
  made : (ℕ → ℕ) → (ℕ → ℕ) → (ℕ → ℕ → ℕ) → Walk
  made p w r = record { par = p; wide = w; gain = λ i q. 1; row = r }

  shape_is : (r : ℕ → ℕ → ℕ) → walk_of f r ≡ made (parent m) (λ i. up_of m i + down_of m i) r
  unfolding made
  shape_is r =
      ap₂ (λ (p w : ℕ → ℕ). made p w r) (fun_ext H.laid.parent_is)
      (fun_ext (λ i. ap₂ ◌+◌ (H.laid.toward_is i) (H.laid.away_is i)))

  abbrev K : Walk
  K = walk_of f (own_of f os)

  rising : (i : ℕ) → 1 ≤ i → parent m i < i
  rising = (arranged m R).rising

  best_form : run K (f.members - 1) 1 0 0 ≡ C.best 1000000 m
  unfolding made
  best_form =
      ap (λ (k : Walk). run k (f.members - 1) 1 0 0) (shape_is (own_of f os))
      ∙ run_same (parent m) (λ i. up_of m i + down_of m i) (λ i q. 1) (own_of f os) (form 1000000 m).row f.members rising own_is (f.members - 1) 1 0 0
      (omega arith) (omega (arith, f.sound.some)) (omega (arith, f.sound.some))
      ∙ ap (λ (d : ℕ). run (form 1000000 m) d 1 0 0) links

  picks_form : picks K (f.members - 1) 1 start ≡ choices 1000000 m
  unfolding made
  picks_form =
      ap (λ (k : Walk). picks k (f.members - 1) 1 start) (shape_is (own_of f os))
      ∙ picks_same (parent m) (λ i. up_of m i + down_of m i) (λ i q. 1) (own_of f os) (form 1000000 m).row f.members rising own_is (f.members - 1) 1 start
      (omega arith) (omega (arith, f.sound.some))
      ∙ ap (λ (d : ℕ). picks (form 1000000 m) d 1 start) links

  indices_form : (i : ℕ) → indices K 1 start (picks K (f.members - 1) 1 start) i ≡ indices (form 1000000 m) 1 start (choices 1000000 m) i
  unfolding made
  indices_form i =
      ap₂ (λ (k : Walk) (ps : List ℕ). indices k 1 start ps i) (shape_is (own_of f os)) picks_form
      ∙ ap (λ (x : ℕ → ℕ). x i) (indices_same (parent m) (λ i. up_of m i + down_of m i) (λ i q. 1) (own_of f os) (form 1000000 m).row f.members rising own_is 1 start (choices 1000000 m))

  -- ---- the outcome

  -- where the best total is none, nothing is cleared
  none_left : best_of f (own_of f os) ≡ 0 → (before : List ℕ) → Outcome m before (returned (Err (record { rule = Rule.Impossible; place = 0 }))) before
  unfolding best_of code number_of
  none_left z before = nothing (clear_none 1000000 m R prices (sym best_form ∙ z))

  -- so it is by a solution or none
  pub nothing_left : (o : Std.Option Solution) → IfNone o (best_of f (own_of f os) ≡ 0) → ((s : Solution) → o ≡ Std.Some s → ⊥)
      → (before : List ℕ) → Outcome m before (returned (Err (record { rule = Rule.Impossible; place = 0 }))) before
  nothing_left Std.None z t before = none_left z before
  nothing_left (Std.Some s) z t before = absurd (t s refl)

  -- and by what `solve` says of either
  pub unsolved_left : (r : Std.Result Solution Solution) → IfErr r (Unsolved f (own_of f os)) → ((s : Solution) → r ≡ Std.Ok s → ⊥)
      → (before : List ℕ) → Outcome m before (returned (Err (record { rule = Rule.Impossible; place = 0 }))) before
  unsolved_left (Err s) u t before = none_left (sym u.made.best_is ∙ u.none) before
  unsolved_left (Std.Ok s) u t before = absurd (t s refl)

  module _ {s : Solution} (S : Solved f (own_of f os) s) where
    abbrev best : ℕ
    best = s.best

    best_is : best ≡ C.best 1000000 m
    unfolding best_of
    best_is = S.made.best_is ∙ best_form

    pub best_small : best ≤ 2 ^ 31
    unfolding tab
    best_small =
        let k : Walk = form 1000000 m in
        let b : tab k f.members 1 0 0 ≤ suc (2000000 * f.members) =
        tab_bound k rising (λ i p. refl) f.members 2000000 (λ j x. subst (λ (o : List Offer). cell_of 1000000 (value o (member m j) (pos (C.top_of m j) -ℤ pos x)) ≤ 2000001) (sym H.tables) (cell_bound (member m j) (pos (C.top_of m j) -ℤ pos x) records))
        1 0 0 (omega arith) (omega (arith, f.sound.some)) (omega arith) in
        let b' : C.best 1000000 m ≤ suc (2000000 * f.members) = subst (λ (d : ℕ). run k d 1 0 0 ≤ suc (2000000 * f.members)) links b in
        omega (arith, best_is, f.sound.few, lit< {m = 64000001} {n = 2 ^ 31} tt)

    abbrev ys : List ℤ
    ys = flows_of m (choices 1000000 m)

    abbrev t : ℤ
    t = pos (best - 1) -ℤ pos (m.members * 1000000)

    best_found : Best m ys t
    best_found = clear_some 1000000 m R prices (best - 1) (sym best_is ∙ omega (arith, S.some))

    -- what the engine leaves is those flows
    pub settles : Settles m ys records f s.trades
    settles = record {
      laid = H.laid;
      tables = H.tables;
      within = best_found.possible.within;
      nets = λ i l. S.made.nets i l ∙ ap₂ (λ (a b : ℕ). pos a -ℤ pos b) (top_is i) (indices_form i)
          ∙ sym (net_at 1000000 m R prices (choices 1000000 m) (choices_fit 1000000 m R prices (λ e. omega (arith, S.some, best_is, e))) i (omega (arith, one_fewer m R, count)))
          ∙ ap (λ (a : ℕ). P.net a m.links ys) (sym (H.laid.member_is i l));
      first = S.made.sends 0 f.sound.some ∙ ap (λ (a : ℕ). pos 0 -ℤ pos a) f.sound.first.1;
      sends = sent_is;
    }
      where
        sent_is : (i : ℕ) → 1 ≤ i → i < f.members → sent_in s.trades i ≡ P.sent m.links ys (member_at f i) (member_at f (parent_at f i))
        sent_is zero h l = absurd (omega arith)
        sent_is (suc d) h l =
            let e : d < length m.links = omega (arith, one_fewer m R, count) in
            let k : parent m (suc d) < f.members = omega (arith, rising (suc d) (omega arith)) in
            S.made.sends (suc d) l
            ∙ ap₂ (λ (ps : List ℕ) (a : ℕ). pos (get_or ps d 0) -ℤ pos a) picks_form (H.laid.away_is (suc d))
            ∙ sym (sends_at 1000000 m R prices (choices 1000000 m) d e)
            ∙ sym (sent_place m.members m.links R.within ys (as_many best_found.possible.within) (member m (suc d)) (member m (parent m (suc d))) (near m R d (omega (arith, e, (steps m R).0))))
            ∙ sym (ap₂ (P.sent m.links ys) (H.laid.member_is (suc d) l) (ap (member_at f) (H.laid.parent_is (suc d)) ∙ H.laid.member_is (parent m (suc d)) k))

    pub cleared_left : (before after : List ℕ) (total : ℤ) → total ≡ pos (best - 1) -ℤ pos (f.members * 1000000)
        → after ≡ answer_of m ys total ++ drop (16 * f.members) before → Outcome m before (16 * f.members) after
    cleared_left before after total e h =
        subst (λ (k : ℕ). Outcome m before (16 * k) after) (sym count)
        (subst (Outcome m before (16 * m.members)) (sym (h ∙ ap₂ (λ (x : ℤ) (k : ℕ). answer_of m ys x ++ drop (16 * k) before) (e ∙ ap (λ (k : ℕ). pos (best - 1) -ℤ pos (k * 1000000)) count) count))
        (cleared ys t best_found))
