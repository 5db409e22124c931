-- The links of a file's records, from a record on, and the numbers that they have. Assumes nothing.
use mathlib.Core.Path.{◌≡◌, refl, ap, ◌∙◌, subst}
use mathlib.Core.Bool.{Bool, true, false, cond}
use mathlib.Core.List.{List, [], ◌∷◌}
use Prim.Native.Nat.{ℕ, ◌+◌, ◌-◌, ◌/◌, ◌≤◌, ◌<◌}
use native.Mathlib.Nat.{le_refl, sub-zero}
use native.Mathlib.Omega.{arith}
use lib.ListN.{length}
use lib.IntN.{pos, nat_abs}
use Rattle.numbers.specs.declared.Member.{Member}
use Rattle.numbers.specs.declared.Units.{Units}
use Rattle.problem.specs.Problem.{Link, joins}
use Rattle.problem.proofs.Tree.{Within}
use Rattle.std.specs.Prelude.{Ok}
use Rattle.records.specs.declared.Record.{Record}
use Rattle.records.specs.Records.{Entry, entry_at, entries_from, entries}
use Rattle.records.specs.Records.Entry.{link, offer, begins, fault}
use Rattle.records.specs.Market.{members_of, links_of}
use Rattle.records.specs.inner.Cases.{reading_of}
use Rattle.records.proofs.Entries.{rest, ended, link_is, link_units, LinkFits, Fits, entry_fits, by_record}
use Rattle.market.specs.inner.Feeders.{capacity_of}

-- ---- the links from record i on, of n records

pub links_other : (e : Entry) (es : List Entry) → ((l : Link) → e ≡ link l → ⊥) → links_of (e ∷ es) ≡ links_of es
unfolding links_of
links_other (link l) es h = absurd (h l refl)
links_other (offer o) es h = refl
links_other (begins j) es h = refl
links_other (fault k) es h = refl

pub links_all : (f : List ℕ) → links_of (entries f) ≡ links_of (entries_from f 0 (length f / 8 - 0))
unfolding entries
links_all f = rw (sub-zero (length f / 8))

pub links_none : (f : List ℕ) (i n : ℕ) → n ≤ i → links_of (entries_from f i (n - i)) ≡ []
unfolding links_of
links_none f i n h = ap links_of (ended f i n h)

module _ (f : List ℕ) (i n : ℕ) (h : i < n) where
  pub links_skip : ((l : Link) → entry_at f i ≡ link l → ⊥) → links_of (entries_from f i (n - i)) ≡ links_of (entries_from f (i + 1) (n - (i + 1)))
  links_skip d = ap links_of (rest f i n h) ∙ links_other (entry_at f i) (entries_from f (i + 1) (n - (i + 1))) d

  pub links_here : (l : Link) → entry_at f i ≡ link l → links_of (entries_from f i (n - i)) ≡ l ∷ links_of (entries_from f (i + 1) (n - (i + 1)))
  unfolding links_of
  links_here l e = ap links_of (rest f i n h) ∙ ap (λ (x : Entry). links_of (x ∷ entries_from f (i + 1) (n - (i + 1)))) e

-- ---- record i is read as a link
module _ (f : List ℕ) (i : ℕ) (a b : Member) (c : Units) (is : reading_of (entry_at f i) ≡ Ok (Record.Link a b c)) where
  pub read_link : entry_at f i ≡ link (record { a = a.0; b = b.0; capacity = nat_abs c.0 })
  read_link = link_is (entry_at f i) a b c is

  pub read_units : c.0 ≡ pos (nat_abs c.0)
  read_units = link_units (entry_at f i) a b c is

  pub read_fits : LinkFits (record { a = a.0; b = b.0; capacity = nat_abs c.0 })
  read_fits = subst Fits read_link (entry_fits f i)

-- ---- members are numbered from 1 to n, and a link has a < b

within_more : (n : ℕ) (e : Entry) (es : List Entry) → Fits e → (members_of es ≤ n → Within n (links_of es)) → members_of (e ∷ es) ≤ n → Within n (links_of (e ∷ es))
unfolding members_of links_of
within_more n (link l) es h ih k = ((h.low, h.below, omega arith), ih (omega arith))
within_more n (offer o) es h ih k = ih (omega arith)
within_more n (begins j) es h ih k = ih (omega arith)
within_more n (fault x) es h ih k = ih k

pub links_within : (f : List ℕ) → Within (members_of (entries f)) (links_of (entries f))
unfolding links_of
links_within f =
    by_record (λ es. members_of es ≤ members_of (entries f) → Within (members_of (entries f)) (links_of es)) (λ h. tt) (within_more (members_of (entries f))) f (le_refl _)

-- ---- no capacity is above 40

small_more : (u v : ℕ) (e : Entry) (es : List Entry) → Fits e → capacity_of (links_of es) u v ≤ 40 → capacity_of (links_of (e ∷ es)) u v ≤ 40
unfolding links_of capacity_of
small_more u v (link l) es h ih = go (joins l u v)
  where
    go : (b : Bool) → cond b l.capacity (capacity_of (links_of es) u v) ≤ 40
    go true = h.small
    go false = ih
small_more u v (offer o) es h ih = ih
small_more u v (begins j) es h ih = ih
small_more u v (fault k) es h ih = ih

pub capacity_small : (f : List ℕ) (u v : ℕ) → capacity_of (links_of (entries f)) u v ≤ 40
unfolding links_of capacity_of
capacity_small f u v = by_record (λ es. capacity_of (links_of es) u v ≤ 40) (omega arith) (small_more u v) f
