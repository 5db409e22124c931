-- The feeder of a market on a tree is that market's, by the walk's positions; so is that of a file that passes refusals 1 to
-- 10, 13 and 14; and each of them has one. Assumes nothing.
use mathlib.Core.Path.{◌≡◌, refl, sym, ap, ap₂, ◌∙◌, subst}
use mathlib.Core.Logic.{inl, inr, ⊎_elim}
use mathlib.Core.Bool.{Bool, true, false, cond}
use mathlib.Core.List.{List, [], ◌∷◌}
use mathlib.Core.Option.{none}
use Prim.Native.Nat.{ℕ, suc, ◌≤◌, ◌<◌}
use native.Mathlib.Omega.{arith}
use lib.Dec.{ltb}
use lib.IntN.{pos}
use lib.ListN.{length, get_or-eq_default}
use borrow.Author.Tests.{ne_eqb, lt-ltb, le-ltb}
use Rattle.std.specs.List.{range_with_len}
use Rattle.std.specs.Prelude.{map}
use Rattle.std.proofs.lemmas.Bool.{cases_lt}
use Rattle.std.proofs.lemmas.List.FromFn.{length-map-range_with_len, get_or-map-range_with_len}
use Rattle.problem.specs.Problem.{Link, Market, joins, walk}
use Rattle.problem.proofs.Tree.{Within, Tree}
use Rattle.problem.proofs.Links.{Ends, joins_ends}
use Rattle.problem.proofs.Max.{pick}
use Rattle.problem.proofs.Steps.{Hop, at_pos, walk_walked, pos_one}
use Rattle.problem.proofs.Places.{from_pos}
use Rattle.problem.proofs.Arrange.{link_at, stops, parent, link_of, member_in_lem, rising}
use Rattle.problem.proofs.Arrange as arrange
use Rattle.problem.proofs.Cleared.{cap_both, up_of, down_of}
use Rattle.network.specs.declared.Feeder.{Feeder}
use Rattle.network.specs.declared.Position.{Position}
use Rattle.network.specs.inner.Positions.{no_position, position_at, toward_of, away_of, Sound}
use Rattle.network.specs.inner.Laid.{Laid}
use Rattle.records.specs.Market.{market_of}
use Rattle.market.specs.Refusals.{file_refusal}
use Rattle.market.specs.inner.Feeders.{reached_at, reached_from, capacity_of, laid_at, PositionsOf, FeederOf}
use Rattle.market.proofs.Top.{market_few}
use Rattle.market.proofs.LinkRecords.{capacity_small}
use Rattle.market.proofs.Trees.{from_le, full, member_at_lem, from_at, parent_at_lem, capacity_at, capacity_place, capacity_back}
use Rattle.market.proofs.Sound.{sound_tree}

-- no link joins a member to itself
alone : (n : ℕ) (ls : List Link) → Within n ls → (u : ℕ) → capacity_of ls u u ≡ 0
unfolding capacity_of
alone n [] w u = refl
alone n (l ∷ ls) w u = go (joins l u u) refl (alone n ls w.1 u)
  where
    two_ends : Ends l u u → ⊥
    two_ends (inl p) = omega (arith, w.0.1, p.0, p.1)
    two_ends (inr p) = omega (arith, w.0.1, p.0, p.1)

    go : (b : Bool) → joins l u u ≡ b → capacity_of ls u u ≡ 0 → cond b l.capacity (capacity_of ls u u) ≡ 0
    go true t ih = absurd (two_ends (joins_ends l u u t))
    go false t ih = ih

at_past : (t : List Hop) (i : ℕ) → length t < i → at_pos t i ≡ 1
at_past [] i l = refl
at_past (s ∷ t) i l = ap (λ (b : Bool). pick b s.at (at_pos t i)) (ne_eqb i (suc (length t)) (λ e. omega arith)) ∙ at_past t i (omega arith)

from_past : (t : List Hop) (i : ℕ) → length t < i → from_pos t i ≡ 0
from_past [] i l = refl
from_past (s ∷ t) i l = ap (λ (b : Bool). pick b s.from (from_pos t i)) (ne_eqb i (suc (length t)) (λ e. omega arith)) ∙ from_past t i (omega arith)

at_first : (t : List Hop) → at_pos t 0 ≡ 1
at_first [] = refl
at_first (s ∷ t) = ap (λ (b : Bool). pick b s.at (at_pos t 0)) (ne_eqb 0 (suc (length t)) (λ e. omega arith)) ∙ at_first t

module _ (m : Market) (R : Tree m) (few : m.members ≤ 32) (small : (u v : ℕ) → capacity_of m.links u v ≤ 40) (ps : List Position) (L : PositionsOf m ps) where
  -- the position i
  seat : ℕ → Position
  seat i = position_at ps i

  -- it is the walk's, or past the members
  seat_or : (P : Position → Type 0) (i : ℕ) → (i < m.members → P (laid_at m i)) → (m.members ≤ i → P no_position) → P (seat i)
  unfolding seat
  seat_or P i a b = ⊎_elim (λ l. subst P (sym (L.at i l)) (a l)) (λ l. subst P (sym (L.past i l)) (b l)) (cases_lt i m.members)

  at : (i : ℕ) → i < m.members → (seat i).member.0 ≡ arrange.member m i
  unfolding laid_at
  at i l = seat_or (λ p. p.member.0 ≡ arrange.member m i) i (λ h. member_at_lem m R i) (λ h. absurd (omega arith))

  from : (i : ℕ) → (seat i).parent ≡ parent m i
  unfolding laid_at
  from i = seat_or (λ p. p.parent ≡ parent m i) i (parent_at_lem m R i) (λ l. sym (from_past (stops m) i (omega (arith, full m R))))

  nothing_at_first : capacity_of m.links (reached_at (walk m) 0) (reached_from (walk m) 0) ≡ 0
  nothing_at_first =
      let from : parent m 0 ≡ 0 = omega (arith, from_le m.links (suc m.members) (stops m) (walk_walked m.links (suc m.members) (suc m.members)) 0) in
      ap₂ (capacity_of m.links) (member_at_lem m R 0) (from_at m R 0 R.some_member ∙ ap (arrange.member m) from) ∙ alone m.members m.links R.within (arrange.member m 0)

  -- the positions of a market on a tree are sound
  pub positions_sound : Sound m.members ps
  unfolding laid_at seat
  positions_sound = record {
    some = R.some_member;
    few = few;
    known = λ i l. let b = member_in_lem m R i in (omega (arith, at i l, b.0), omega (arith, at i l, b.1));
    apart = λ i k li lk e.
        pos_one m.links (suc m.members) (stops m) (walk_walked m.links (suc m.members) (suc m.members)) i k (omega (arith, full m R)) (omega (arith, full m R))
        (sym (at i li) ∙ e ∙ at k lk);
    rising = λ i p. omega (arith, from i, rising m R i p);
    first = (
      seat_or (λ p. toward_of p ≡ 0) 0 (λ l. nothing_at_first) (λ l. refl),
      seat_or (λ p. away_of p ≡ 0) 0 (λ l. capacity_back m.links _ _ ∙ nothing_at_first) (λ l. refl),
    );
    toward = λ i. seat_or (λ p. (p.toward.0 ≡ pos (toward_of p)) × (toward_of p ≤ 40)) i (λ l. (refl, small _ _)) (λ l. (refl, omega arith));
    away = λ i. seat_or (λ p. (p.away.0 ≡ pos (away_of p)) × (away_of p ≤ 40)) i (λ l. (refl, small _ _)) (λ l. (refl, omega arith));
  }

  -- ---- past the last position stands what stands at the first

  no_link : (i : ℕ) → m.members ≤ i → (link_at m.links (link_of m i)).capacity ≡ 0
  no_link i l =
      sym (capacity_place m.links (arrange.member m i) (arrange.member m (parent m i)))
      ∙ ap₂ (capacity_of m.links) (at_past (stops m) i (omega (arith, full m R))) (ap (arrange.member m) (from_past (stops m) i (omega (arith, full m R))) ∙ at_first (stops m))
      ∙ alone m.members m.links R.within 1

  toward_is : (i : ℕ) → toward_of (seat i) ≡ up_of m i
  unfolding laid_at
  toward_is i = seat_or (λ p. toward_of p ≡ (link_at m.links (link_of m i)).capacity) i (capacity_at m R i) (λ l. sym (no_link i l)) ∙ sym (cap_both m i).0

  away_is : (i : ℕ) → away_of (seat i) ≡ down_of m i
  unfolding laid_at
  away_is i =
      seat_or (λ p. away_of p ≡ (link_at m.links (link_of m i)).capacity) i (λ l. capacity_back m.links _ _ ∙ capacity_at m R i l) (λ l. sym (no_link i l)) ∙ sym (cap_both m i).1

-- the market's feeder holds its members, parents and capacities
pub feeder_laid : (m : Market) → Tree m → m.members ≤ 32 → ((u v : ℕ) → capacity_of m.links u v ≤ 40) → (f : Feeder) → FeederOf m f → Laid m f
unfolding seat
feeder_laid m R few small f F = record {
  tree = R;
  members = F.members;
  member_is = λ i l. at m R few small f.position F.positions i (omega (arith, l, F.members));
  parent_is = from m R few small f.position F.positions;
  toward_is = toward_is m R few small f.position F.positions;
  away_is = away_is m R few small f.position F.positions;
}

-- ---- a market on a tree has a feeder, whose array has 32 places

module _ (m : Market) (few : m.members ≤ 32) where
  -- what stands at position i
  stands : ℕ → Position
  stands i = cond (ltb i m.members) (laid_at m i) no_position

  all_places : List Position
  all_places = map stands (range_with_len 0 32)

  stands_at : (i : ℕ) → i < 32 → position_at all_places i ≡ stands i
  unfolding all_places
  stands_at i l = get_or-map-range_with_len stands 0 32 i i no_position l (omega arith)

  all_of : PositionsOf m all_places
  unfolding stands all_places
  all_of = record {
    at = λ i l. stands_at i (omega arith) ∙ rw (lt-ltb i m.members l) refl;
    past = λ i l. ⊎_elim (λ h. stands_at i h ∙ rw (le-ltb i m.members l) refl) (λ h. get_or-eq_default all_places no_position h) (cases_lt i 32);
  }

pub feeder_found : (m : Market) → Tree m → m.members ≤ 32 → ((u v : ℕ) → capacity_of m.links u v ≤ 40) → (f : Feeder) × FeederOf m f × (length f.position ≡ 32)
unfolding all_places
feeder_found m R few small = (
  record { members = m.members; position = all_places m few; sound = positions_sound m R few small (all_places m few) (all_of m few) },
  record { members = refl; positions = all_of m few },
  length-map-range_with_len (stands m few) 0 32,
)

pub file_laid : (f : List ℕ) → file_refusal f ≡ none → (x : Feeder) → FeederOf (market_of f) x → Laid (market_of f) x
unfolding market_of
file_laid f e = feeder_laid (market_of f) (sound_tree f e) (market_few f) (capacity_small f)

pub file_found : (f : List ℕ) → file_refusal f ≡ none → (x : Feeder) × FeederOf (market_of f) x × Laid (market_of f) x
unfolding market_of
file_found f e =
    let x = feeder_found (market_of f) (sound_tree f e) (market_few f) (capacity_small f) in
    (x.0, x.1, file_laid f e x.0 x.1)
