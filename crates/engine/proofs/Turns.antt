-- The upward pass, apart from any code: what holds of a member's row while its children are taken in, and the turns.
-- Assumes nothing.
use mathlib.Core.Path.{◌≡◌, sym, ap, ◌∙◌, subst}
use mathlib.Core.Logic.{◌≢◌}
use Prim.Native.Nat.{ℕ, suc, ◌+◌, ◌-◌, ◌*◌, ◌<◌, ◌≤◌, ◌^◌}
use native.Mathlib.Numerals.{add-one}
use native.Mathlib.Omega.{arith}
use mathlib.Core.List.{List, []}
use lib.ListN.{length, get_or}
use lib.Dec.{lit<}
use Rattle.problem.proofs.Form.{Walk}
use Rattle.problem.proofs.Reach.{reach, reach_par}
use Rattle.problem.proofs.Table.{tab, chosen, tab_all, tab_kid, pick_kid, tab_other, tab_bound}
use Rattle.engine.specs.inner.Words.{Small, slot_of, cell_in, Sent, Kept, Taken}
use Rattle.engine.proofs.Shape.{Shape, far, reach_first, reach_not}
use Rattle.engine.proofs.Slots.{slot_apart}

-- what take_in asks of the message of position i, of w + 1 cells, and of a row of len cells
abbrev pub Asked : List (List ℕ) → List ℕ → ℕ → ℕ → ℕ → Type 0
Asked msgs row i w len =
    ((1 ≤ i) × (i < 32) × (w ≤ 80) × (w < len) × (len ≤ w + (80 * (i - 1) + 1)))
    × (((p : ℕ) → p ≤ w → cell_in msgs i p < 2 ^ 31) × ((x : ℕ) → x < len → get_or row x 0 < 2 ^ 31))

module _ (k : Walk) (n : ℕ) where
  -- the row of v has taken in its children from position i on
  pub record Gathering (row store : List ℕ) (v len i : ℕ) : Type 0 where
    pub low : v < i
    pub high : i ≤ n
    pub count : len ≡ 1 + reach k i v
    pub rows : length row ≡ 2481
    pub cells : (x : ℕ) → x < len → get_or row x 0 ≡ tab k n i v x
    pub kept : Kept k n store v i

  -- what take_in leaves
  abbrev pub Turned : List ℕ → List ℕ → List (List ℕ) → ℕ → ℕ → ℕ → ℕ → Type 0
  Turned row store msgs v w len i =
      (row' store' : List ℕ) → Taken (get_or msgs i []) row store row' store' i w len → length row' ≡ length row → Gathering row' store' v (len - w) i

  -- the code counts down first
  pub fallen : {row store : List ℕ} {v len i : ℕ} → Gathering row store v len i → v + 1 < i → Gathering row store v len (suc (i - 1))
  fallen {row} {store} {v} {len} {i} g l =
      let e : i ≡ suc (i - 1) = omega arith in
      subst (λ (t : ℕ). Gathering row store v len t) e g

module _ (k : Walk) (n : ℕ) (s : Shape k n) where
  -- ---- a position that is no child
  pub turn_not : {row store : List ℕ} {v len i : ℕ} → Gathering k n row store v len (suc i) → v < i → (k.par i ≡ v → ⊥) → Gathering k n row store v len i
  turn_not {row} {store} {v} {len} {i} g l o =
      let h = g.high in
      let r = rw (add-one i) at (reach_not k n s i v (omega arith) o) in
      record {
        low = l;
        high = omega arith;
        count = omega (arith, g.count);
        rows = g.rows;
        cells = λ x d. g.cells x d ∙ sym (tab_other k s.rising s.free n i v x h (λ e. o (sym e)));
        kept = record { kept = λ j y a b c d f. g.kept.kept j y a b c (λ q. grind (arith, d q, o)) f };
      }

  -- ---- a child i, whose message is taken in
  module _ {row store : List ℕ} {msgs : List (List ℕ)} {len i : ℕ} (g : Gathering k n row store (k.par i) len (suc i)) (h : 1 ≤ i) (m : Sent k n msgs (k.par i + 1)) where
    left : len ≡ 1 + (reach k i (k.par i) + k.wide i)
    left = omega (arith, g.count, reach_par k s.rising i h)

    below : (p : ℕ) → p ≤ k.wide i → cell_in msgs i p ≡ tab k n (suc i) i p
    below p b = m.sent i p (omega (arith, s.rising i h)) g.high b

    here : (x : ℕ) → x ≤ reach k (suc i) (k.par i) → get_or row x 0 ≡ tab k n (suc i) (k.par i) x
    here x b = g.cells x (omega (arith, g.count))

    kid_fits : Small k.row → Asked msgs row i (k.wide i) len
    kid_fits o =
        let few = s.few in
        let high = g.high in (
          (h, omega arith, s.narrow i, omega (arith, left), omega (arith, left, far k n s i (k.par i) (s.rising i h))),
          (λ p d. rw (below p d) (small i p (omega arith)), λ x d. rw (g.cells x d) (small (k.par i) x g.low)),
        )
      where
        small : (j x : ℕ) → j < suc i → tab k n (suc i) j x < 2 ^ 31
        small j x d = omega (arith, lit< {m = 64000001} {n = 2 ^ 31} tt, s.few, tab_bound k s.rising s.free n 2000000 o (suc i) j x (omega arith) g.high d)

    module _ (row' store' : List ℕ) (t : Taken (get_or msgs i []) row store row' store' i (k.wide i) len) where
      new_pick : (y : ℕ) → y ≤ reach k i (k.par i) → get_or store' (slot_of i + y) 0 ≡ chosen k n i y
      new_pick y b =
          t.picks y (omega (arith, left))
          ∙ pick_kid k s.rising s.free n (λ p. cell_in msgs i p) (λ x. get_or row x 0) i h g.high below here y b

      old_pick : (j y : ℕ) → 1 ≤ j → y ≤ reach k j (k.par j) → j ≢ i → get_or store' (slot_of j + y) 0 ≡ get_or store (slot_of j + y) 0
      old_pick j y a f o =
          grind (arith, t.after (slot_of j + y), t.before (slot_of j + y), left, far k n s i (k.par i) (s.rising i h), far k n s j (k.par j) (s.rising j a), slot_apart i j h, slot_apart j i a)

      turn_kid : length row' ≡ length row → Gathering k n row' store' (k.par i) (len - k.wide i) i
      turn_kid lr =
          record {
            low = s.rising i h;
            high = omega (arith, g.high);
            count = omega (arith, left);
            rows = lr ∙ g.rows;
            cells = λ x d. t.cells x d
                ∙ tab_kid k s.rising s.free n (λ p. cell_in msgs i p) (λ x. get_or row x 0) i h g.high below here x (omega (arith, left));
            kept = record { kept = λ j y a b c d f. which j y f (λ o. old_pick j y a f o ∙ g.kept.kept j y a b c (λ z. grind (arith, d z, o)) f) };
          }
        where
          which : (j y : ℕ) → y ≤ reach k j (k.par j) → (j ≢ i → get_or store' (slot_of j + y) 0 ≡ chosen k n j y) → get_or store' (slot_of j + y) 0 ≡ chosen k n j y
          which j y f other = grind (arith, new_pick y, other)

  -- as the code has it: v is the parent, and w how wide the link is
  pub kid_law : {row store : List ℕ} {v w len i : ℕ} (msgs : List (List ℕ)) → Gathering k n row store v len (suc i) → 1 ≤ i → Sent k n msgs (v + 1) → k.par i ≡ v
      → w ≡ k.wide i → (Small k.row → Asked msgs row i w len) × Turned k n row store msgs v w len i
  kid_law {row} {store} {v} {w} {len} {i} msgs g h m e we =
      subst (λ (u : ℕ). (Small k.row → Asked msgs row i u len) × Turned k n row store msgs v u len i) (sym we)
      (subst
      (λ (u : ℕ).
      Gathering k n row store u len (suc i) → Sent k n msgs (u + 1)
      → (Small k.row → Asked msgs row i (k.wide i) len) × Turned k n row store msgs u (k.wide i) len i) e (λ g m. (kid_fits g h m, turn_kid g h m)) g m)

  -- ---- a member's first row, and its message in the end
  pub start_law : (row store : List ℕ) (v len i : ℕ) → i ≡ n → v < n → len ≡ 1 + reach k n v → length row ≡ 2481
      → ((x : ℕ) → x < len → get_or row x 0 ≡ k.row v x) → Kept k n store v n → Gathering k n row store v len i
  start_law row store v len i q l c lr e kept =
      subst (λ (t : ℕ). Gathering k n row store v len t) (sym q)
      record {
        low = l;
        high = omega arith;
        count = c;
        rows = lr;
        cells = λ x d. e x d ∙ sym (tab_all k n v x);
        kept = kept;
      }

  module _ {row store : List ℕ} {v len i : ℕ} (g : Gathering k n row store v len i) (q : i ≤ v + 1) where
    last : i ≡ v + 1
    last = omega (arith, g.low)

    pub end_len : len ≡ 1 + k.wide v
    end_len = g.count ∙ ap (λ (t : ℕ). 1 + reach k t v) last ∙ ap (λ (t : ℕ). 1 + t) (reach_first k n s v)

    pub end_kept : Kept k n store v 0
    end_kept = record { kept = λ j y a b c d f. g.kept.kept j y a b c (λ z. omega (arith, last, s.rising j a)) f }

    -- its message put in the store, and those past it as before
    pub end_sent : (msgs msgs' : List (List ℕ)) → Sent k n msgs (v + 1) → ((x : ℕ) → x < len → cell_in msgs' v x ≡ get_or row x 0)
        → ((j p : ℕ) → v < j → cell_in msgs' j p ≡ cell_in msgs j p) → Sent k n msgs' v
    end_sent msgs msgs' m ours others = record { sent = λ j p a b c. grind (arith, mine p, others j p, m.sent j p) }
      where
        mine : (p : ℕ) → p ≤ k.wide v → cell_in msgs' v p ≡ tab k n (suc v) v p
        mine p c =
            let d : p < len = omega (arith, end_len) in
            ours p d ∙ g.cells p d ∙ ap (λ (t : ℕ). tab k n t v p) (last ∙ add-one v)
