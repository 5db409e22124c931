-- The downward pass, apart from any code: the choices read so far, and the indices after them. Assumes nothing.
use mathlib.Core.Path.{◌≡◌, refl, sym, ap, ap₂, ◌∙◌, subst, fun_ext}
use Prim.Native.Nat.{ℕ, suc, ◌+◌, ◌-◌, ◌<◌, ◌≤◌}
use native.Mathlib.Numerals.{add-one}
use native.Mathlib.Omega.{arith}
use mathlib.Core.List.{List, ◌∷◌, ◌++◌, append-nil}
use lib.ListN.{length, get_or, take, set, replicate, length-set, length-map, get_or-map}
use Rattle.std.specs.Prelude.{map}
use lib.Seq.{take-suc-set, append_snoc, get_or-take, map-set_same}
use Rattle.std.proofs.lemmas.List.{map-set}
use Rattle.problem.proofs.Max.{first_max}
use Rattle.problem.proofs.Form.{Walk, step, offer, picks}
use Rattle.problem.proofs.Reach.{reach, at, Within, step_within, step_list}
use Rattle.problem.proofs.Table.{chosen}
use Rattle.problem.proofs.Answer.{start}
use Rattle.problem.proofs.Closed.{indices}
use Rattle.engine.specs.declared.downward.Choice.{Choice}
use Rattle.engine.specs.inner.Words.{slot_of, choice_in, Kept, Settled}
use Rattle.engine.proofs.Shape.{Shape, far}
use Rattle.engine.proofs.Slots.{slot_end}
use Rattle.engine.proofs.Fill.{blank}

zeros : at (replicate 32 0) ≡ start
zeros = fun_ext (blank 0 32)

-- ---- choices as the lists of what is taken and of the indices
abbrev pub taken : List Choice → List ℕ
taken cs = map (λ (c : Choice). c.taken) cs

abbrev indexes : List Choice → List ℕ
indexes cs = map (λ (c : Choice). c.index) cs

-- the index of each position
abbrev pub index_of : List Choice → ℕ → ℕ
index_of cs = at (indexes cs)

pub index_at : (cs : List Choice) (j : ℕ) → index_of cs j ≡ (choice_in cs j).index
index_at cs j = get_or-map (λ (c : Choice). c.index) cs j (record { taken = 0; index = 0 })

module _ (k : Walk) (n : ℕ) where
  abbrev total : List ℕ
  total = picks k (n - 1) 1 start

  -- the choices of the positions below i are read
  pub record Falling (cs : List Choice) (i : ℕ) : Type 0 where
    pub size : length cs ≡ 32
    pub inside : Within k i (index_of cs)
    pub done : take i (taken cs) ++ picks k (n - i) i (index_of cs) ≡ 0 ∷ total
    pub same : indices k i (index_of cs) (picks k (n - i) i (index_of cs)) ≡ indices k 1 start total

  pub fall_start : Falling (replicate 32 (record { taken = 0; index = 0 })) 1
  fall_start =
      record {
        size = refl;
        inside = λ j l. omega (arith, blank {A = ℕ} 0 32 j);
        done = ap (λ (x : ℕ → ℕ). 0 ∷ picks k (n - 1) 1 x) zeros;
        same = ap (λ (x : ℕ → ℕ). indices k 1 x (picks k (n - 1) 1 x)) zeros;
      }

  pub fall_end : Shape k n → {cs : List Choice} → Falling cs n → Settled k n cs
  unfolding picks indices
  fall_end s {cs} f =
      let z : n - n ≡ 0 = omega arith in
      let d : take n (taken cs) ≡ 0 ∷ total = sym (append-nil (take n (taken cs))) ∙ (rw z at f.done) in
      let x : index_of cs ≡ indices k 1 start total = rw z at f.same in
      record {
        choices = λ j l. sym (get_or-map (λ (c : Choice). c.taken) cs j (record { taken = 0; index = 0 })) ∙ sym (get_or-take n (taken cs) j 0 l)
            ∙ ap (λ (ps : List ℕ). get_or ps j 0) d;
        indexed = λ j l. sym (index_at cs j) ∙ ap (λ (x : ℕ → ℕ). x j) x;
        within = λ j l. omega (arith, index_at cs j, f.inside j l, far k n s n j l, s.few);
      }

-- ---- one turn: the choice of position i is read where its parent's index points, from place b on
module _ (k : Walk) (n : ℕ) (s : Shape k n) {store : List ℕ} (kept : Kept k n store 0 0) (cs : List Choice) {i : ℕ} (f : Falling k n cs i) (h : 1 ≤ i) (l : i < n)
    {b : ℕ} (eb : b ≡ slot_of i) where
  abbrev parent : Choice
  parent = choice_in cs (k.par i)

  abbrev read : ℕ
  read = get_or store (b + parent.index) 0

  close : parent.index ≤ reach k i (k.par i)
  close = omega (arith, index_at cs (k.par i), f.inside (k.par i) (s.rising i h))

  read_is : read ≡ chosen k n i parent.index
  read_is = rw eb (kept.kept i parent.index h l (omega arith) (λ e. omega arith) close)

  narrow : read ≤ k.wide i
  unfolding chosen
  narrow = rw read_is (first_max (offer k (n - suc i) i parent.index) (k.wide i)).within

  -- what is read lies within the store, and is a choice
  pub fall_fits : (parent.index ≤ 2480) × (b + parent.index < 37231) × (read ≤ k.wide i)
  fall_fits =
      let r = far k n s i (k.par i) (s.rising i h) in
      let few = s.few in
      let e = slot_end i h (omega arith) in
      (omega (arith, close), omega (arith, close), narrow)

  pub fall_turn : {w : ℕ} → w ≡ k.wide i
      → Falling k n (set (set cs (k.par i) (record { taken = parent.taken; index = parent.index + (w - read) })) i (record { taken = read; index = read })) (i + 1)
  unfolding picks chosen indices
  fall_turn {w} ew =
      let c : Choice = record { taken = parent.taken; index = parent.index + (w - read) } in
      let d : Choice = record { taken = read; index = read } in
      let next : List Choice = set (set cs (k.par i) c) i d in
      let x : ℕ → ℕ = index_of cs in
      let m : n - i ≡ suc (n - suc i) = omega arith in
      let long : i < length (indexes cs) = omega (arith, length-map cs (λ (c : Choice). c.index), f.size, s.few) in
      let was : read ≡ chosen k n i (x (k.par i)) = read_is ∙ ap (chosen k n i) (sym (index_at cs (k.par i))) in
      let R : List ℕ = picks k (n - suc i) (suc i) (step k x i read) in
      let t : taken next ≡ set (taken cs) i read =
      map-set (λ (c : Choice). c.taken) (set cs (k.par i) c) i d
      ∙ ap (λ (ts : List ℕ). set ts i read) (map-set_same (λ (c : Choice). c.taken) cs (k.par i) c (record { taken = 0; index = 0 }) refl) in
      let u : index_of next ≡ step k x i read =
      ap at (map-set (λ (c : Choice). c.index) (set cs (k.par i) c) i d
      ∙ ap (λ (is : List ℕ). set is i read) (map-set (λ (c : Choice). c.index) cs (k.par i) c
      ∙ ap₂ (λ (y v : ℕ). set (indexes cs) (k.par i) (y + (v - read))) (sym (index_at cs (k.par i))) ew))
      ∙ step_list k s.rising (indexes cs) i read h long in
      let done : take (suc i) (set (taken cs) i read) ++ R ≡ 0 ∷ total k n =
      ap (λ (v : List ℕ). v ++ R) (take-suc-set (taken cs) i read (omega (arith, length-map cs (λ (c : Choice). c.taken), f.size, s.few)))
      ∙ append_snoc (take i (taken cs)) read R
      ∙ ap (λ (v : ℕ). take i (taken cs) ++ (v ∷ picks k (n - suc i) (suc i) (step k x i v))) was
      ∙ (rw m at f.done) in
      let same : indices k (suc i) (step k x i read) R ≡ indices k 1 start (total k n) =
      ap (λ (v : ℕ). indices k (suc i) (step k x i v) (picks k (n - suc i) (suc i) (step k x i v))) was ∙ (rw m at f.same) in
      subst (Falling k n next) (sym (add-one i))
      record {
        size = length-set (set cs (k.par i) c) i d ∙ length-set cs (k.par i) c ∙ f.size;
        inside = subst (λ (y : ℕ → ℕ). Within k (suc i) y) (sym u) (step_within k s.rising i read x h narrow f.inside);
        done = subst (λ (y : ℕ → ℕ). take (suc i) (taken next) ++ picks k (n - suc i) (suc i) y ≡ 0 ∷ total k n) (sym u)
            (subst (λ (ts : List ℕ). take (suc i) ts ++ R ≡ 0 ∷ total k n) (sym t) done);
        same = subst (λ (y : ℕ → ℕ). indices k (suc i) y (picks k (n - suc i) (suc i) y) ≡ indices k 1 start (total k n)) (sym u) same;
      }
