-- Texts on a page: one, and one after another; and a line with one number more. Assumes nothing.
use Rattle.std.proofs.Common.{◌≡◌, sym, ap, subst, ◌∙◌, rules, arith, ℕ, ◌+◌, ◌-◌, ◌≤◌, ◌<◌, min, ℤ, pos, negsuc, nat_abs, true, false, List, [], ◌∷◌, ◌++◌, append_assoc, length, take, drop, get_or, length-append, length-drop, inl, inr, refl}
use Rattle.std.specs.Fmt.{decimal, signed_decimal}
use Rattle.std.specs.List.{flat_map}
use Rattle.std.proofs.lemmas.Bool.{cases_lt, true≢false}
use lib.Signed.{lt_z}
use Rattle.std.proofs.lemmas.Grind.{common_steps}
use Rattle.std.proofs.lemmas.Int.{ints}
use Rattle.std.proofs.lemmas.List.{flat_map_more, take_more, take_all, length-take, drop-drop}
use Rattle.std.proofs.lemmas.Slice.{overwrites}
use Rattle.std.proofs.Math.Seq.{take-append_seam, take-append-add, drop-append-add}
use borrow.Rule.Slice.PartMut.{put_mid}
use Rattle.print.specs.inner.Page.{Put, PutNumber, blank_and}

-- the first bytes of s, as many as fit, stand from the place on
pub put_part : (page s part : List ℕ) (at n k : ℕ) → part ≡ take n s → n ≡ min (length s) (length page - at) → k ≡ n → at ≤ length page → Put page at s (put_mid at k page part) (at + n)
put_part page s part at n k holds fits all within = record { bytes = search (rules, overwrites); end = omega arith }

-- at the page's end, or past it, nothing is put
pub put_past : (page : List ℕ) (at : ℕ) (s : List ℕ) → length page ≤ at → Put page at s page (length page)
put_past page at s h = record { bytes = grind (arith, common_steps); end = omega arith }

-- the number that a call was handed is the one that is meant
pub same_number : {page made : List ℕ} {at place : ℕ} {z z' : ℤ} → z ≡ z' → PutNumber page at z made place → PutNumber page at z' made place
same_number {page} {made} {at} {place} e p = subst (λ (z : ℤ). PutNumber page at z made place) e p

-- a sign and then the digits are a number in decimal
pub below_zero : (z : ℤ) → lt_z z (pos 0) ≡ true → 45 ∷ decimal (nat_abs z) ≡ signed_decimal z
below_zero (pos n) h = absurd (omega (arith, ints, h))
below_zero (negsuc n) h = refl

-- and where there is no sign, the digits alone
pub from_zero : (z : ℤ) → lt_z z (pos 0) ≡ false → decimal (nat_abs z) ≡ signed_decimal z
from_zero (pos n) h = refl
from_zero (negsuc n) h = absurd (true≢false h)

-- a page keeps its length
pub length-put : {page s made : List ℕ} {at place : ℕ} → Put page at s made place → length made ≡ length page
length-put p = ap length p.bytes ∙ simp (length-append, length-take, length-drop) (omega arith)

-- a text and then another are put as both in one
module _ {page s t made both : List ℕ} {at place end : ℕ} (p : Put page at s made place) (q : Put made place t both end) where
  -- the page is full after the first
  full_then : length page ≤ at + length s → Put page at (s ++ t) both end
  full_then full = record { bytes = grind (arith, common_steps, p.bytes, q.bytes, p.end); end = omega (arith, length-append s t, length-put p) }

  -- it has room after the first
  room_then : at + length s < length page → Put page at (s ++ t) both end
  room_then room =
      let one : List ℕ = take at page ++ s in
      let past : List ℕ = drop (at + length s) page in
      let same : length made ≡ length page = length-put p in
      let long : length one ≡ at + length s = simp (length-append, length-take) (omega arith) in
      let made-is : made ≡ one ++ past = p.bytes ∙ ap (λ (l : List ℕ). take at page ++ l ++ past) (take_all (length page - at) s (omega arith)) in
      let there : place ≡ length one = omega arith in
      let before : take place made ≡ one = rw (made-is, there) (take-append_seam one past) in
      let after : drop (place + length t) made ≡ drop (at + length (s ++ t)) page =
      rw (made-is, there, drop-append-add one past (length t), drop-drop (length t) (at + length s) page)
      (ap (λ (k : ℕ). drop k page) (omega (arith, length-append s t))) in
      let texts : take (length page - at) (s ++ t) ≡ s ++ take (length made - place) t =
      ap (λ (k : ℕ). take k (s ++ t)) (omega arith) ∙ take-append-add s t (length made - place) in
      record {
        bytes = q.bytes ∙ rw (before, after, texts, ← append_assoc (take at page) s (take (length made - place) t)) refl;
        end = omega (arith, length-append s t);
      }

  pub put_then : Put page at (s ++ t) both end
  put_then = elim (cases_lt (at + length s) (length page)) [ inl room ↦ room_then room | inr full ↦ full_then full ]

-- a line with one number more
pub line_more : (word : List ℕ) (numbers : List ℤ) (i : ℕ) → i < length numbers → word ++ flat_map blank_and (take i numbers) ++ 32 ∷ [] ++ signed_decimal (get_or numbers i (pos 0)) ≡ word ++ flat_map blank_and (take (i + 1) numbers)
line_more word numbers i h =
    let z : ℤ = get_or numbers i (pos 0) in
    append_assoc (word ++ flat_map blank_and (take i numbers)) (32 ∷ []) (signed_decimal z)
    ∙ flat_map_more blank_and word (take i numbers) z
    ∙ ap (λ (zs : List ℤ). word ++ flat_map blank_and zs) (sym (take_more numbers i (pos 0) h))
