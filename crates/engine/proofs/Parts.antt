-- Parts of lists that were lent and came back, place by place: a row put in the store as a message, and a message taken into
-- a row. Assumes nothing.
use mathlib.Core.Path.{◌≡◌, sym, ap, ap₂, ◌∙◌, subst}
use Prim.Native.Nat.{ℕ, ◌+◌, ◌-◌, ◌<◌, ◌≤◌, ◌^◌}
use native.Mathlib.Omega.{arith}
use mathlib.Core.List.{List, ◌++◌}
use Rattle.std.proofs.lemmas.Grind.{common_steps}
use Rattle.std.specs.Prelude.{EachIndex, slice_index}
use lib.ListN.{length, get_or, take, drop, length-take, length-drop, length-append, get_or-append}
use lib.Seq.{get_or-take, length-take-le}
use Rattle.problem.proofs.Cell.{◌⊕◌}
use Rattle.problem.proofs.Max.{max_to, argmax, max_to_ext, argmax_ext}
use Rattle.rows.specs.inner.Rows.{meets, Combined}
use Rattle.engine.specs.inner.Words.{slot_of, meet, Taken}

-- what holds of the places below n holds of the part of n places
pub fronts : (P : ℕ → Type 0) (xs : List ℕ) (n : ℕ) → ((x : ℕ) → x < n → P (get_or xs x 0)) → (x : ℕ) → x < length (take n xs) → P (get_or (take n xs) x 0)
fronts P xs n h x l =
    let d : x < n = omega (arith, length-take n xs) in
    subst P (sym (get_or-take n xs x 0 d)) (h x d)

pub length_part : (xs : List ℕ) (a n : ℕ) → a + n ≤ length xs → length (take n (drop a xs)) ≡ n
length_part xs a n h = length-take-le n (drop a xs) (omega (arith, length-drop a xs))

-- ---- put_message, as the code has it: a row copied into the front of a message
pub put_law : (row message : List ℕ) → length row ≤ length message
    → ((x : ℕ) → x < length row → get_or (row ++ drop (length row) message) x 0 ≡ get_or row x 0)
    × ((x : ℕ) → length row ≤ x → get_or (row ++ drop (length row) message) x 0 ≡ get_or message x 0)
put_law row message l = (λ x d. grind (arith, common_steps), λ x d. grind (arith, common_steps))

-- ---- take_in, as the code has it: the front of a message, and n choices from their place c on, lent to combine
module _ (message row store : List ℕ) (i w c n : ℕ) (cs : c ≡ slot_of i) (lm : w < length message) (wl : w < length row) (ls : c + n ≤ length store)
    (room : length row - w ≤ n) where
  msg : List ℕ
  msg = take (w + 1) message

  long : length msg ≡ w + 1
  unfolding msg
  long = length-take-le (w + 1) message (omega arith)

  -- what combine requires of them
  pub combine_asks : w ≤ 80 → ((p : ℕ) → p ≤ w → get_or message p 0 < 2 ^ 31) → EachIndex row (λ y. slice_index row y < 2 ^ 31)
      → ((1 ≤ length (take (w + 1) message)) × (length (take (w + 1) message) ≤ 81) × (length (take (w + 1) message) ≤ length row)
      × (length row + 1 ≤ length (take n (drop c store)) + length (take (w + 1) message)))
      × (EachIndex row (λ y. slice_index row y < 2 ^ 31) × EachIndex (take (w + 1) message) (λ p. slice_index (take (w + 1) message) p < 2 ^ 31))
  unfolding msg
  combine_asks few hm hr =
      let l = length_part store c n ls in
      ((omega (arith, long), omega (arith, long), omega (arith, long), omega (arith, long, l)), (hr, fronts (λ (z : ℕ). z < 2 ^ 31) message (w + 1) (λ p d. hm p (omega arith))))

  same : (x : ℕ) → x < length row - w → (p : ℕ) → p ≤ w → meets row msg x p ≡ meet message row w x p
  unfolding meets msg
  same x d p lp =
      let q : length msg - 1 - p ≡ w - p = omega (arith, long) in
      ap₂ ◌⊕◌ (get_or-take (w + 1) message p 0 (omega arith)) (ap (λ (t : ℕ). get_or row (x + t) 0) q)

  pub taken_law : (last choice : List ℕ) → length choice ≡ length (take n (drop c store)) → Combined row (take (w + 1) message) (take n (drop c store)) last choice
      → Taken message row store last (take c store ++ (choice ++ drop n (drop c store))) i w (length row)
  unfolding msg
  taken_law last choice lc e =
      let W : length msg - 1 ≡ w = omega (arith, long) in
      let size : length choice ≡ n = lc ∙ length_part store c n ls in
      record {
        cells = λ x d. e.cells x (omega (arith, long)) ∙ ap (max_to (meets row msg x)) W ∙ max_to_ext _ _ w (same x d);
        picks = λ x d.
            let h : get_or (take c store ++ (choice ++ drop n (drop c store))) (slot_of i + x) 0 ≡ get_or choice x 0 = grind (arith, common_steps) in
            h ∙ e.picks x (omega (arith, long)) ∙ ap (argmax (meets row msg x)) W ∙ argmax_ext _ _ w (same x d);
        before = λ j d. grind (arith, common_steps);
        after = λ j d. grind (arith, common_steps, e.past_picks (j - c), long);
      }

-- ---- a row whose first len cells were lent is as long as before
pub whole : (row last : List ℕ) (len : ℕ) → length (take len row) ≡ len → length last ≡ length (take len row) → length (last ++ drop len row) ≡ length row
whole row last len n e = omega (arith, length-append last (drop len row), length-drop len row, length-take len row)

-- ---- the same of the row whose first len cells were lent
module _ (message row store last rest store' : List ℕ) (i w len : ℕ) (size : length (take len row) ≡ len) (t : Taken message (take len row) store last store' i w (length (take len row)))
    (back : length last ≡ length (take len row)) (wl : w < len) where
  there : (x : ℕ) → x < len - w → (p : ℕ) → p ≤ w → meet message (take len row) w x p ≡ meet message row w x p
  there x d p lp = ap (λ (z : ℕ). get_or message p 0 ⊕ z) (get_or-take len row (x + (w - p)) 0 (omega arith))

  pub taken_whole : Taken message row store (last ++ rest) store' i w len
  taken_whole =
      record {
        cells = λ x d. get_or-append last rest 0 x (omega arith) ∙ t.cells x (omega arith) ∙ max_to_ext _ _ w (there x d);
        picks = λ x d. t.picks x (omega arith) ∙ argmax_ext _ _ w (there x d);
        before = t.before;
        after = λ j d. t.after j (omega arith);
      }
