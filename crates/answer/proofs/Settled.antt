-- Nets and flows by position, written member by member and link by link, are the answer. Assumes nothing.
use mathlib.Core.Path.{◌≡◌, refl, sym, ap, ap₂, ◌∙◌, subst, subst₂}
use mathlib.Core.Logic.{◌⊎◌, inl, inr}
use mathlib.Core.Bool.{Bool, true, false, cond}
use mathlib.Core.List.{List, [], ◌∷◌, ◌++◌}
use Prim.Native.Nat.{ℕ, zero, suc, ◌+◌, ◌-◌, ◌*◌, ◌≤◌, ◌<◌}
use native.Mathlib.Omega.{arith}
use lib.Dec.{eqb, ltb}
use lib.ListN.{length, get_or}
use lib.IntN.{ℤ, nat_abs, neg_ℤ-neg_ℤ}
use borrow.Author.Tests.{eq-eqb, eqb-true, eqb-false, ltb-true, ltb-false, le-ltb}
use Rattle.std.specs.Prelude.{Some, None}
use Rattle.engine.specs.inner.Words.{net_in, sent_in}
use Rattle.engine.specs.declared.Trade.{Trade}
use Rattle.std.proofs.lemmas.Bool.{and_from, cases_Bool}
use Rattle.problem.specs.Problem.{Link, Market, InRange, value, load}
use Rattle.problem.specs.Problem.InRange.{end, flow}
use Rattle.problem.specs.Problem as P
use Rattle.problem.proofs.Tree.{Tree}
use Rattle.problem.proofs.Max.{pick}
use Rattle.problem.proofs.Links.{Ends}
use Rattle.problem.proofs.Places.{from_first}
use Rattle.problem.proofs.Transfer.{upward}
use Rattle.problem.proofs.Flows.{at, as_many, sent_place}
use Rattle.problem.proofs.Arrange.{link_at, within_at, stops, parent, member, ord_of, link_of, lower_of, place_in, reached_by, near, steps, ord_suc, one_fewer, arranged, link_only}
use Rattle.problem.proofs.Cleared.{cap_both}
use Rattle.network.specs.declared.Feeder.{Feeder}
use Rattle.network.specs.inner.Feeders.{member_at, parent_at, toward_at}
use Rattle.records.specs.Records.{entries}
use Rattle.records.specs.Market.{offers_of}
use Rattle.records.specs.Answer.{or_zero, each, member_bytes, member_record, link_record, between, total_record, answer_of}
use Rattle.records.proofs.Written.{member_8, each_same, each_8, links_length, ends_other}
use Rattle.answer.specs.declared.allocation.Allocation.{Allocation}
use Rattle.answer.specs.inner.Words.{Settles, Fitting}
use Rattle.answer.specs.inner.Records.{place_of, parent_of, joint_of, from_lower, joint_bytes, link_by, links_by, member_by, members_by}
use Rattle.answer.proofs.Sizes.{size_from_lower}

-- ---- a member's record

pub member_by_lem : (records : List ℕ) (x : Allocation) (i : ℕ) {j : ℕ} {u v : ℤ} → j ≡ i + 1 → u ≡ net_in x.trades.now (get_or x.position_of i 0) → v ≡ or_zero (value (offers_of (entries records)) j u)
    → member_bytes j u v ≡ member_by records x (i + 1)
unfolding member_by
member_by_lem records x i e p q = let k : i + 1 - 1 ≡ i = omega arith in rw (q, p, e, k)

pub members_length : (records : List ℕ) (x : Allocation) (n : ℕ) → length (each n (member_by records x)) ≡ 8 * n
unfolding member_by
members_length records x n = each_8 n (member_by records x) (λ j. member_8 j _ _)

-- ---- the record between two members

-- no link has these ends
between_none : (ls : List Link) (ys : List ℤ) (a b : ℕ) → ((e : ℕ) → e < length ls → (link_at ls e).a ≡ a → (link_at ls e).b ≡ b → ⊥) → between ls ys a b ≡ []
unfolding between
between_none [] ys a b h = refl
between_none (l ∷ ls) [] a b h = refl
between_none (l ∷ ls) (y ∷ ys) a b h =
    ap (λ (t : Bool). cond t (link_record l y) (between ls ys a b)) (ends_other l a b (λ q. h 0 (omega arith) q.0 q.1))
    ∙ between_none ls ys a b (λ e l. h (suc e) (omega arith))

-- one link has these ends
between_one : (ls : List Link) (ys : List ℤ) → length ys ≡ length ls → (a b e : ℕ) → e < length ls → (link_at ls e).a ≡ a → (link_at ls e).b ≡ b
    → ((d : ℕ) → d < length ls → (link_at ls d).a ≡ a → (link_at ls d).b ≡ b → d ≡ e) → between ls ys a b ≡ link_record (link_at ls e) (at ys e)
unfolding between
between_one [] ys q a b e l p r h = absurd (omega arith)
between_one (k ∷ ls) [] q a b e l p r h = absurd (omega arith)
between_one (k ∷ ls) (y ∷ ys) q a b zero l p r h =
    ap (λ (t : Bool). cond t (link_record k y) (between ls ys a b)) (and_from (eqb k.a a) (eqb k.b b) (eq-eqb k.a a p) (eq-eqb k.b b r))
between_one (k ∷ ls) (y ∷ ys) q a b (suc e) l p r h =
    ap (λ (t : Bool). cond t (link_record k y) (between ls ys a b)) (ends_other k a b (λ z. omega (arith, h 0 (omega arith) z.0 z.1)))
    ∙ between_one ls ys (omega arith) a b e (omega arith) p r (λ d k u v. omega (arith, h (suc d) (omega arith) u v))

record_same : (l : Link) (y z : ℤ) (a b c : ℕ) → l.a ≡ a → l.b ≡ b → l.capacity ≡ c → y ≡ z → link_record l y ≡ link_record (record { a = a; b = b; capacity = c }) z
unfolding link_record load
record_same l y z a b c p q r s = rw (p, q, r, s)

-- a link's ends, where b tells whether u is the lower
ends_by : (b : Bool) (l : Link) (u v : ℕ) → l.a ≡ pick b u v → l.b ≡ pick b v u → Ends l u v
ends_by true l u v p q = inl (p, q)
ends_by false l u v p q = inr (p, q)

module _ (m : Market) (R : Tree m) where
  -- what holds at each position's member holds of all members
  each_place : (Q : ℕ → Type 0) → ((i : ℕ) → i < m.members → Q (ord_of m i)) → (j : ℕ) → j < m.members → Q j
  each_place Q h j l =
      let k : j < suc (length m.links) = omega (arith, one_fewer m R) in
      subst Q ((arranged m R).ord_place j k) (h (place_in m j) (omega (arith, (arranged m R).place_in_lem j k, one_fewer m R)))

  each_member : (Q : ℕ → Type 0) → ((i : ℕ) → i < m.members → Q (member m i)) → (a : ℕ) → 1 ≤ a → a ≤ m.members → Q a
  each_member Q h a p q = subst Q (omega arith) (each_place (λ j. Q (suc j)) (λ i l. subst Q (sym (ord_suc m R i)) (h i l)) (a - 1) (omega arith))

  -- the ends of a position's link, the lower first
  low_end : (d : ℕ) → d < length m.links → (b : Bool) → lower_of m (suc d) ≡ b → (link_at m.links (link_of m (suc d))).a ≡ pick b (member m (suc d)) (member m (parent m (suc d)))
  low_end d l true t = ((arranged m R).child_low d l t).0 ∙ ord_suc m R (suc d)
  low_end d l false t = ((arranged m R).child_high d l t).1 ∙ ord_suc m R (parent m (suc d))

  high_end : (d : ℕ) → d < length m.links → (b : Bool) → lower_of m (suc d) ≡ b → (link_at m.links (link_of m (suc d))).b ≡ pick b (member m (parent m (suc d))) (member m (suc d))
  high_end d l true t = ((arranged m R).child_low d l t).1 ∙ ord_suc m R (parent m (suc d))
  high_end d l false t = ((arranged m R).child_high d l t).0 ∙ ord_suc m R (suc d)

range_at : {ls : List Link} {ys : List ℤ} → InRange ls ys → (e : ℕ) → e < length ls → nat_abs (at ys e) ≤ (link_at ls e).capacity
range_at end e l = absurd (omega arith)
range_at (flow h r) zero l = h
range_at (flow h r) (suc e) l = range_at r e (omega arith)

-- turned twice
lower_back : (b : Bool) (y : ℤ) → from_lower b (upward b y) ≡ y
unfolding from_lower
lower_back true y = refl
lower_back false y = neg_ℤ-neg_ℤ y

size_upward : (b : Bool) (y : ℤ) → nat_abs (upward b y) ≡ nat_abs y
unfolding from_lower
size_upward true y = refl
size_upward false y = size_from_lower false y

module _ {m : Market} {ys : List ℤ} {records : List ℕ} {f : Feeder} {trades : List Trade} (S : Settles m ys records f trades) where
  abbrev R : Tree m
  R = S.laid.tree

  abbrev E : ℕ
  E = length m.links

  count : f.members ≡ m.members
  count = S.laid.members

  -- what a position sends is its link's flow
  sent_is : (d : ℕ) → d < E → sent_in trades (suc d) ≡ upward (lower_of m (suc d)) (at ys (link_of m (suc d)))
  sent_is d h =
      let l : suc d < f.members = omega (arith, one_fewer m R, count) in
      let k : parent m (suc d) < f.members = omega (arith, (arranged m R).rising (suc d) (omega arith)) in
      let u : member_at f (suc d) ≡ member m (suc d) = S.laid.member_is (suc d) l in
      let v : member_at f (parent_at f (suc d)) ≡ member m (parent m (suc d)) = ap (member_at f) (S.laid.parent_is (suc d)) ∙ S.laid.member_is (parent m (suc d)) k in
      S.sends (suc d) (omega arith) l ∙ ap₂ (P.sent m.links ys) u v
      ∙ sent_place m.members m.links R.within ys (as_many S.within) (member m (suc d)) (member m (parent m (suc d))) (near m R d (omega (arith, (steps m R).0)))

  -- no flow is more than its link carries
  pub fitting : Fitting f trades
  fitting zero l = rw S.first (omega arith)
  fitting (suc d) l =
      let h : d < E = omega (arith, one_fewer m R, count) in
      omega (
        arith,
        ap nat_abs (sent_is d h),
        size_upward (lower_of m (suc d)) (at ys (link_of m (suc d))),
        range_at S.within (link_of m (suc d)) ((arranged m R).link_in d h),
        (cap_both m (suc d)).0,
        S.laid.toward_is (suc d),
      )

  -- the record of the link between c and p, where c, at position i, was reached from p; t tells whether c is the lower
  abbrev Over : ℕ → ℕ → ℕ → Bool → Type 0
  Over i c p t =
      between m.links ys (pick t c p) (pick t p c)
      ≡ link_record (record { a = pick t c p; b = pick t p c; capacity = toward_at f i }) (from_lower t (sent_in trades i))

  over : (d : ℕ) → d < E → (t : Bool) → lower_of m (suc d) ≡ t → Over (suc d) (member m (suc d)) (member m (parent m (suc d))) t
  over d h t z =
      between_one m.links ys (as_many S.within) (pick t c p) (pick t p c) e ((arranged m R).link_in d h) (low_end m R d h t z) (high_end m R d h t z)
      (λ k lk x y. sym (link_only m R k d lk h (ends_by t (link_at m.links k) c p x y)))
      ∙ record_same (link_at m.links e) (at ys e) (from_lower t (sent_in trades (suc d))) (pick t c p) (pick t p c) (toward_at f (suc d))
      (low_end m R d h t z) (high_end m R d h t z) (sym (S.laid.toward_is (suc d) ∙ (cap_both m (suc d)).0))
      (sym (ap (from_lower t) (sent_is d h ∙ ap (λ (b : Bool). upward b (at ys e)) z) ∙ lower_back t (at ys e)))
    where
      e : ℕ
      e = link_of m (suc d)

      c : ℕ
      c = member m (suc d)

      p : ℕ
      p = member m (parent m (suc d))

  reached : (i c p : ℕ) → i < m.members → member m i ≡ c → member m (parent m i) ≡ p → (c ≡ p → ⊥) → (t : Bool) → ltb c p ≡ t → Over i c p t
  reached zero c p l x y n t e = absurd (n (sym x ∙ ap (member m) (sym (from_first (stops m))) ∙ y))
  reached (suc d) c p l x y n t e =
      subst₂ (λ (u v : ℕ). ltb u v ≡ t → Over (suc d) u v t) x y (over d (omega (arith, one_fewer m R)) t) e

-- of an allocation that was made of them
pub settles_by : {m : Market} {ys : List ℤ} {records : List ℕ} {f : Feeder} {trades : List Trade} (x : Allocation) → (x.feeder.now ≡ f) × (x.trades.now ≡ trades) → Settles m ys records f trades
    → Settles m ys records x.feeder.now x.trades.now
settles_by {m} {ys} {records} x e S = subst₂ (Settles m ys records) (sym e.0) (sym e.1) S

module _ {m : Market} {ys : List ℤ} {records : List ℕ} (x : Allocation) (S : Settles m ys records x.feeder.now x.trades.now) where
  abbrev f : Feeder
  f = x.feeder.now

  abbrev T : Tree m
  T = S.laid.tree

  as_many_members : f.members ≡ m.members
  as_many_members = S.laid.members

  -- ---- members and their positions

  place_member : (i : ℕ) → i < m.members → place_of x (member m i) ≡ i
  place_member i l = let k : i < f.members = omega (arith, as_many_members) in ap (place_of x) (sym (S.laid.member_is i k)) ∙ x.positioned.at i k

  placed : (a : ℕ) → 1 ≤ a → a ≤ m.members → (place_of x a < m.members) × (member m (place_of x a) ≡ a)
  placed = each_member m T (λ a. (place_of x a < m.members) × (member m (place_of x a) ≡ a)) (λ i l. (omega (arith, place_member i l), ap (member m) (place_member i l)))

  members_same : members_by records x ≡ each m.members (member_record m ys)
  unfolding member_by member_record
  members_same =
      ap (λ (n : ℕ). each n (member_by records x)) as_many_members
      ∙ (each_same m.members (member_by records x) (member_record m ys) (λ j p q.
      let a = placed j p q in
      let l : place_of x j < f.members = omega (arith, as_many_members, a.0) in
      let e : net_in x.trades.now (place_of x j) ≡ P.net j m.links ys =
      S.nets (place_of x j) l ∙ ap (λ (k : ℕ). P.net k m.links ys) (S.laid.member_is (place_of x j) l ∙ a.1) in
      rw (e, S.tables)))

  -- ---- links

  -- one end of each link was reached from the other: no link joins two members where neither was
  unlinked : (a b : ℕ) → (parent_at f (place_of x b) ≡ place_of x a → ⊥) → (parent_at f (place_of x a) ≡ place_of x b → ⊥)
      → (e : ℕ) → e < length m.links → (link_at m.links e).a ≡ a → (link_at m.links e).b ≡ b → ⊥
  unlinked a b not-b not_a e l p q = go (cases_Bool (lower_of m (suc d)))
    where
      d : ℕ
      d = reached_by m e

      h : d < length m.links
      h = (arranged m T).reached_in e l

      low : (link_at m.links (link_of m (suc d))).a ≡ a
      low = ap (λ (k : ℕ). (link_at m.links k).a) ((arranged m T).link_reached e l) ∙ p

      high : (link_at m.links (link_of m (suc d))).b ≡ b
      high = ap (λ (k : ℕ). (link_at m.links k).b) ((arranged m T).link_reached e l) ∙ q

      from : (u v : ℕ) → member m (suc d) ≡ u → member m (parent m (suc d)) ≡ v → parent_at f (place_of x u) ≡ place_of x v
      from u v p q =
          ap (λ (k : ℕ). parent_at f (place_of x k)) (sym p) ∙ ap (parent_at f) (place_member (suc d) (omega (arith, h, one_fewer m T))) ∙ S.laid.parent_is (suc d)
          ∙ sym (ap (place_of x) (sym q) ∙ place_member (parent m (suc d)) (omega (arith, h, one_fewer m T, (arranged m T).rising (suc d) (omega arith))))

      go : (lower_of m (suc d) ≡ true) ⊎ (lower_of m (suc d) ≡ false) → ⊥
      go (inl t) = not_a (from a b (sym (low_end m T d h true t) ∙ low) (sym (high_end m T d h true t) ∙ high))
      go (inr t) = not-b (from b a (sym (high_end m T d h false t) ∙ high) (sym (low_end m T d h false t) ∙ low))

  -- c was reached from p, two members
  over_between : (c p : ℕ) → 1 ≤ c → c ≤ m.members → 1 ≤ p → p ≤ m.members → (c ≡ p → ⊥) → parent_at f (place_of x c) ≡ place_of x p
      → (t : Bool) → ltb c p ≡ t → Over S (place_of x c) c p t
  over_between c p lc hc lp hp n e =
      let i = placed c lc hc in
      let k = placed p lp hp in
      reached S (place_of x c) c p i.0 i.1 (ap (member m) (sym (S.laid.parent_is (place_of x c)) ∙ e) ∙ k.1) n

  -- the record of two members' link
  link_right : (a b : ℕ) → 1 ≤ a → a ≤ m.members → 1 ≤ b → b ≤ m.members → link_by x a b ≡ between m.links ys a b
  unfolding link_by joint_of joint_bytes
  link_right a b pa qa pb qb = sym (go (ltb a b) refl (eqb (parent_of x b) (place_of x a)) refl (eqb (parent_of x a) (place_of x b)) refl)
    where
      go : (t : Bool) → ltb a b ≡ t → (u : Bool) → eqb (parent_of x b) (place_of x a) ≡ u → (v : Bool) → eqb (parent_of x a) (place_of x b) ≡ v
          → between m.links ys a b ≡ joint_bytes x a b (cond t
          (cond u (Some (record { reached = place_of x b; lower = false })) (cond v (Some (record { reached = place_of x a; lower = true })) None)) None)
      go false t u _ v _ = between_none m.links ys a b (λ e l p q. omega (arith, (within_at m.members m.links T.within e l).1, ltb-false a b t))
      go true t true u v _ = let l = ltb-true a b t in over_between b a pb qb pa qa (λ e. omega arith) (eqb-true _ _ u) false (le-ltb b a (omega arith))
      go true t false u true v = let l = ltb-true a b t in over_between a b pa qa pb qb (λ e. omega arith) (eqb-true _ _ v) true t
      go true t false u false v = between_none m.links ys a b (unlinked a b (eqb-false _ _ u) (eqb-false _ _ v))

  links_same : links_by x ≡ each m.members (λ a. each m.members (between m.links ys a))
  links_same =
      ap (λ (n : ℕ). each n (λ a. each n (link_by x a))) as_many_members
      ∙ each_same m.members (λ a. each m.members (link_by x a)) (λ a. each m.members (between m.links ys a)) (λ a p q.
      each_same m.members (link_by x a) (between m.links ys a) (λ b r s. link_right a b p q r s))

  -- ---- the answer

  pub answer_is : (t : ℤ) → members_by records x ++ links_by x ++ total_record t ≡ answer_of m ys t
  unfolding answer_of
  answer_is t = rw (members_same, links_same)

  -- the links' records fill the answer's middle part
  pub links_room : length (links_by x) ≡ 8 * (f.members - 1)
  links_room = ap length links_same ∙ links_length m T ys (as_many S.within) ∙ ap (λ (k : ℕ). 8 * (k - 1)) (sym as_many_members)
