-- docs/RULES.md, "Records out": from the answer to bytes.
use Rattle.std.specs.Prelude.{cond, ◌&&◌, List, [], ◌∷◌, ◌++◌, ℕ, zero, suc, ◌/◌, ◌%◌, eqb, ℤ, pos}
use Rattle.std.proofs.Math.Option.{Option, none, some}
use Rattle.std.specs.Int.{w16, w32}
use Rattle.std.proofs.Common.{of_z}
use Rattle.problem.specs.Problem.{Link, Market, net, value, load}

-- 16 and 32 bits, low byte first
unfoldable pub low16 : ℕ → List ℕ
low16 n = n % 256 ∷ n / 256 ∷ []

unfoldable pub low32 : ℕ → List ℕ
low32 n = n % 256 ∷ n / 256 % 256 ∷ n / 65536 % 256 ∷ n / 16777216 ∷ []

-- a value; in an allocation that is possible every member has one
unfoldable pub or_zero : Option ℤ → ℤ
or_zero none = pos 0
or_zero (some v) = v

-- f 1, f 2 .. f n, one after the other
unfoldable pub each : ℕ → (ℕ → List ℕ) → List ℕ
each zero f = []
each (suc k) f = each k f ++ f (suc k)

-- kind 3: member, net, value
unfoldable pub member_bytes : ℕ → ℤ → ℤ → List ℕ
member_bytes j x v = 3 ∷ j ∷ low16 (of_z w16 x) ++ low32 (of_z w32 v)

unfoldable pub member_record : Market → List ℤ → ℕ → List ℕ
member_record m ys j = let x : ℤ = net j m.links ys in member_bytes j x (or_zero (value m.offers j x))

-- kind 4: a, b, zero, flow, load
unfoldable pub link_record : Link → ℤ → List ℕ
link_record l y = 4 ∷ l.a ∷ l.b ∷ 0 ∷ low16 (of_z w16 y) ++ low16 (load l y)

-- the record of the link from a to b, if there is one
unfoldable pub between : List Link → List ℤ → ℕ → ℕ → List ℕ
between [] ys a b = []
between (l ∷ ls) [] a b = []
between (l ∷ ls) (y ∷ ys) a b = cond (eqb l.a a && eqb l.b b) (link_record l y) (between ls ys a b)

-- kind 5: three zeros, total
unfoldable pub total_record : ℤ → List ℕ
total_record t = 5 ∷ 0 ∷ 0 ∷ 0 ∷ low32 (of_z w32 t)

-- members in order; links by a, then b; the total
unfoldable pub answer_of : Market → List ℤ → ℤ → List ℕ
answer_of m ys t =
    each m.members (member_record m ys)
    ++ each m.members (λ a. each m.members (between m.links ys a))
    ++ total_record t
