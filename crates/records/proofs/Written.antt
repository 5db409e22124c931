-- The answer has 16 bytes for each member: 8 for its record, 8 for each link's, and 8 for the total. Assumes nothing.
use mathlib.Core.Path.{◌≡◌, refl, sym, ap, ap₂, ◌∙◌, subst}
use mathlib.Core.Logic.{◌⊎◌, inl, inr}
use mathlib.Core.Bool.{Bool, true, false, cond, ◌&&◌}
use mathlib.Core.List.{List, [], ◌∷◌, ◌++◌}
use Prim.Native.Nat.{ℕ, zero, suc, ◌+◌, ◌*◌, ◌-◌, ◌≤◌, ◌<◌}
use native.Mathlib.Omega.{arith}
use lib.Dec.{eqb}
use lib.ListN.{length, length-append}
use lib.IntN.{ℤ}
use Rattle.std.proofs.lemmas.Bool.Decides.{nat_tests}
use Rattle.std.proofs.lemmas.Bool.{or_left, or_right, cases_Bool}
use Rattle.problem.specs.Problem.{Link, Market, joins, neighbours}
use Rattle.problem.proofs.Tree.{Tree, Open, Within}
use Rattle.problem.proofs.Tree.Joined.{same, step}
use Rattle.problem.proofs.Count.{same?}
use Rattle.problem.proofs.Links.{ends_joins}
use Rattle.problem.proofs.Arrange.{one_fewer}
use Rattle.records.specs.Answer.{low16, low32, each, member_bytes, member_record, link_record, between, total_record, answer_of}

-- ---- each record has 8 bytes
pub member_8 : (j : ℕ) (x v : ℤ) → length (member_bytes j x v) ≡ 8
unfolding member_bytes low16 low32
member_8 j x v = refl

pub link_8 : (l : Link) (y : ℤ) → length (link_record l y) ≡ 8
unfolding link_record low16
link_8 l y = refl

pub total_8 : (t : ℤ) → length (total_record t) ≡ 8
unfolding total_record low32
total_8 t = refl

-- ---- lists one after the other
pub each_same : (n : ℕ) (f g : ℕ → List ℕ) → ((k : ℕ) → 1 ≤ k → k ≤ n → f k ≡ g k) → each n f ≡ each n g
unfolding each
each_same zero f g h = refl
each_same (suc n) f g h = ap₂ ◌++◌ (each_same n f g (λ k p q. h k p (omega arith))) (h (suc n) (omega arith) (omega arith))

-- each of 8 elements
pub each_8 : (n : ℕ) (f : ℕ → List ℕ) → ((k : ℕ) → length (f k) ≡ 8) → length (each n f) ≡ 8 * n
unfolding each
each_8 zero f h = refl
each_8 (suc n) f h = length-append (each n f) (f (suc n)) ∙ omega (arith, each_8 n f h, h (suc n))

-- the first are no longer than all
pub each_prefix : (n k : ℕ) (f : ℕ → List ℕ) → k ≤ n → length (each k f) ≤ length (each n f)
unfolding each
each_prefix zero k f l = let z : k ≡ 0 = omega arith in rw z (omega arith)
each_prefix (suc n) k f l = go (same? k (suc n)) (each_prefix n k f)
  where
    go : ((k ≡ suc n) × (eqb k (suc n) ≡ true)) ⊎ ((k ≡ suc n → ⊥) × (eqb k (suc n) ≡ false)) → (k ≤ n → length (each k f) ≤ length (each n f)) → length (each k f) ≤ length (each n f ++ f (suc n))
    go (inl e) ih = let z : k ≡ suc n = e.0 in rw z (omega arith)
    go (inr e) ih = omega (arith, length-append (each n f) (f (suc n)), ih (omega (arith, e.0)))

-- one list, at x, is longer by c, and the others are as long
each_longer : (n x c : ℕ) (f g : ℕ → List ℕ) → 1 ≤ x → x ≤ n → length (f x) ≡ c + length (g x) → ((k : ℕ) → (k ≡ x → ⊥) → length (f k) ≡ length (g k)) → length (each n f) ≡ c + length (each n g)
unfolding each
each_longer zero x c f g p l e h = absurd (omega arith)
each_longer (suc n) x c f g p l e h = length-append (each n f) (f (suc n)) ∙ go (same? (suc n) x) (λ q. each_longer n x c f g p q e h) ∙ ap (λ (k : ℕ). c + k) (sym (length-append (each n g) (g (suc n))))
  where
    as_long : (m : ℕ) → m < x → length (each m f) ≡ length (each m g)
    as_long zero q = refl
    as_long (suc m) q = omega (arith, length-append (each m f) (f (suc m)), length-append (each m g) (g (suc m)), as_long m (omega arith), h (suc m) (λ z. omega arith))

    go : ((suc n ≡ x) × (eqb (suc n) x ≡ true)) ⊎ ((suc n ≡ x → ⊥) × (eqb (suc n) x ≡ false)) → (x ≤ n → length (each n f) ≡ c + length (each n g)) → length (each n f) + length (f (suc n)) ≡ c + (length (each n g) + length (g (suc n)))
    go (inl z) ih =
        let a : length (f (suc n)) ≡ c + length (g (suc n)) = subst (λ (k : ℕ). length (f k) ≡ c + length (g k)) (sym z.0) e in
        omega (arith, a, as_long n (omega (arith, z.0)))
    go (inr z) ih = omega (arith, ih (omega (arith, z.0)), h (suc n) z.0)

-- ---- no two links have the same ends
abbrev ends : Link → ℕ → ℕ → Bool
ends l a b = eqb l.a a && eqb l.b b

ends_are : (l : Link) (a b : ℕ) → ends l a b ≡ true → (l.a ≡ a) × (l.b ≡ b)
ends_are l a b t = (grind (arith, nat_tests), grind (arith, nat_tests))

pub ends_own : (l : Link) → ends l l.a l.b ≡ true
ends_own l = grind (arith, nat_tests)

pub ends_other : (l : Link) (a b : ℕ) → ((l.a ≡ a) × (l.b ≡ b) → ⊥) → ends l a b ≡ false
ends_other l a b d = grind (arith, nat_tests)

none_between : (e ls : List Link) → Open e ls → (u v : ℕ) → neighbours e u v ≡ true → (ys : List ℤ) → between ls ys u v ≡ []
unfolding between
none_between e [] o u v h ys = refl
none_between e (l ∷ ls) o u v h [] = refl
none_between e (l ∷ ls) o u v h (y ∷ ys) = go (cases_Bool (ends l u v)) (none_between (l ∷ e) ls o.1 u v (or_right (joins l u v) (neighbours e u v) h) ys)
  where
    go : (ends l u v ≡ true) ⊎ (ends l u v ≡ false) → between ls ys u v ≡ [] → cond (ends l u v) (link_record l y) (between ls ys u v) ≡ []
    go (inl t) ih =
        let q = ends_are l u v t in
        absurd (o.0 (step (subst (λ (x : ℕ). neighbours e x l.b ≡ true) (sym q.0) (subst (λ (x : ℕ). neighbours e u x ≡ true) (sym q.1) h)) same))
    go (inr t) ih = ap (λ (x : Bool). cond x (link_record l y) (between ls ys u v)) t ∙ ih

-- ---- the links' part
each_none : (n : ℕ) (f : ℕ → List ℕ) → ((k : ℕ) → f k ≡ []) → each n f ≡ []
unfolding each
each_none zero f h = refl
each_none (suc n) f h = ap₂ ◌++◌ (each_none n f h) (h (suc n))

links_part : (n : ℕ) (e ls : List Link) (ys : List ℤ) → length ys ≡ length ls → Within n ls → Open e ls → length (each n (λ a. each n (between ls ys a))) ≡ 8 * length ls
unfolding between
links_part n e [] ys q w o = ap length (each_none n (λ a. each n (between [] ys a)) (λ a. each_none n (between [] ys a) (λ b. refl)))
links_part n e (l ∷ ls) [] q w o = absurd (omega arith)
links_part n e (l ∷ ls) (y ∷ ys) q w o =
    each_longer n l.a 8 (λ a. each n (more a)) (λ a. each n (between ls ys a)) w.0.0 (omega (arith, w.0.1, w.0.2))
    (each_longer n l.b 8 (more l.a) (between ls ys l.a) (omega (arith, w.0.0, w.0.1)) w.0.2 here
    (λ b d. ap length (other l.a b (λ z. d (sym z.1)))))
    (λ a d. ap length (each_same n (more a) (between ls ys a) (λ b p r. other a b (λ z. d (sym z.0)))))
    ∙ omega (arith, links_part n (l ∷ e) ls ys (omega arith) w.1 o.1)
  where
    more : ℕ → ℕ → List ℕ
    more a b = cond (ends l a b) (link_record l y) (between ls ys a b)

    here : length (more l.a l.b) ≡ 8 + length (between ls ys l.a l.b)
    here =
        ap (λ (t : Bool). length (cond t (link_record l y) (between ls ys l.a l.b))) (ends_own l) ∙ link_8 l y
        ∙ ap (λ (x : List ℕ). 8 + length x) (sym (none_between (l ∷ e) ls o.1 l.a l.b (or_left (joins l l.a l.b) (neighbours e l.a l.b) (ends_joins l l.a l.b (inl (refl, refl)))) ys))

    other : (a b : ℕ) → ((l.a ≡ a) × (l.b ≡ b) → ⊥) → more a b ≡ between ls ys a b
    other a b d = ap (λ (t : Bool). cond t (link_record l y) (between ls ys a b)) (ends_other l a b d)

module _ (m : Market) (R : Tree m) (ys : List ℤ) (q : length ys ≡ length m.links) where
  pub links_length : length (each m.members (λ a. each m.members (between m.links ys a))) ≡ 8 * (m.members - 1)
  links_length = links_part m.members [] m.links ys q R.within R.ringless ∙ omega (arith, one_fewer m R)

  members_length : length (each m.members (member_record m ys)) ≡ 8 * m.members
  unfolding member_record
  members_length = each_8 m.members (member_record m ys) (λ j. member_8 j _ _)

  pub answer_length : (t : ℤ) → length (answer_of m ys t) ≡ 16 * m.members
  unfolding answer_of
  answer_length t =
      let n : ℕ = m.members in
      let ms : List ℕ = each n (member_record m ys) in
      let ks : List ℕ = each n (λ a. each n (between m.links ys a)) in
      omega (arith, length-append ms (ks ++ total_record t), length-append ks (total_record t), length-append (ms ++ ks) (total_record t), length-append ms ks, members_length, links_length, total_8 t, R.some_member)
