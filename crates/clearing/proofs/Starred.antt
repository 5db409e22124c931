-- The starred markets: the claim over the whole table, by computation. Assumes nothing.
use mathlib.Core.Path.{◌≡◌, refl, sym, ap, ◌∙◌, subst₂}
use mathlib.Core.Bool.{true}
use mathlib.Core.List.{List, [], ◌∷◌, ◌++◌}
use mathlib.Core.Option.{none}
use Prim.Native.Nat.{ℕ, ◌*◌, ◌≤◌}
use native.Mathlib.Omega.{arith}
use lib.ListN.{length, drop}
use lib.IntN.{ℤ, pos, neg_ℤ}
use Rattle.numbers.specs.Whole as N
use Rattle.problem.specs.Problem.{Market}
use Rattle.problem.specs.Problem as P
use Rattle.problem.proofs.EveryFlow as S
use Rattle.records.specs.Records as B
use Rattle.records.specs.Refusals as R
use Rattle.records.specs.Market.{market_of}
use Rattle.records.specs.Market as M
use Rattle.records.specs.Answer.{answer_of}
use Rattle.records.specs.Answer as A
use Rattle.market.specs.Refusals.{file_refusal}
use Rattle.market.specs.Refusals as F
use Rattle.clearing.specs.Outcome.{code, no_allocation, Outcome}
use Rattle.clearing.specs.Outcome.Outcome.{nothing, cleared}
use Rattle.clearing.specs.Promise.Result.{settled}
use Rattle.clearing.specs.Starred.{Row, Right, AllRight, starred}
use Rattle.clearing.specs.Starred as W
use Rattle.clearing.proofs.Refused.{room_none}

-- a row of n members that passes 1 to 10, and the flows and the total of its answer
clears : (r : Row) (n : ℕ) (ys : List ℤ) (t : ℤ) → n ≤ 3 → file_refusal r.file ≡ none → (market_of r.file).members ≡ n → S.best (market_of r.file) ys t ≡ true
    → answer_of (market_of r.file) ys t ≡ r.written → length r.written ≡ 16 * n → 16 * n ≡ r.number → Right r
clears r n ys t few sound members best bytes long number before room =
    let m : Market = market_of r.file in
    let o : Outcome m before (16 * m.members) (answer_of m ys t ++ drop (16 * m.members) before) = cleared ys t (S.is_best m ys t best) in
    settled (room_none r.file (length before) sound (omega (arith, members)))
    (subst₂ (Outcome m before) (ap (λ (k : ℕ). 16 * k) members ∙ number)
    (ap (λ (bs : List ℕ). bs ++ drop (16 * m.members) before) bytes ∙ ap (λ (k : ℕ). r.written ++ drop k before) (ap (λ (k : ℕ). 16 * k) members ∙ sym long)) o)

-- a row of n members that passes 1 to 10, and that no flows answer
fails : (r : Row) (n : ℕ) → n ≤ 3 → file_refusal r.file ≡ none → (market_of r.file).members ≡ n → S.nothing (market_of r.file) ≡ true
    → r.written ≡ [] → code no_allocation ≡ r.number → Right r
fails r n few sound members none-possible bytes number before room =
    let m : Market = market_of r.file in
    let o : Outcome m before (code no_allocation) before = nothing (S.is_nothing m none-possible) in
    settled (room_none r.file (length before) sound (omega (arith, members)))
    (subst₂ (Outcome m before) number (ap (λ (bs : List ℕ). bs ++ drop (length bs) before) (sym bytes)) o)

neg : ℕ → ℤ
neg n = neg_ℤ (pos n)

-- the claim
pub all_right : AllRight starred
unfolding starred W.bytes W.chain W.A W.B W.C W.D W.E W.F W.G W.H W.I W.J W.K W.L W.M neg S.best S.nothing S.in_range S.is_total S.no_total S.all_flows S.all_in S.judge S.lex_le N.eq_z N.within B.link_of B.link_at B.point_of B.point_at B.unfinished B.unbegun B.bad_span B.begin_at B.span_of B.span_at B.entry_at B.entries_from B.entries R.refusal R.◌otherwise◌ R.place_if R.too_long R.not_whole R.faulty R.unsound M.members_of M.links_of M.offers_of M.market_of P.bought P.sold P.net P.worth P.offered P.higher P.value P.plus P.total_to P.total P.lowest P.joined P.branch P.walk P.sent P.upwards P.upward P.load A.low16 A.low32 A.or_zero A.each A.member_bytes A.member_record A.link_record A.between A.total_record A.answer_of F.lowest_member F.first_record F.offers_by F.no_offer F.without F.too_many F.closes F.apart F.file_refusal code
all_right = (
  clears W.A 3 (pos 2 ∷ pos 2 ∷ []) (pos 80) (omega arith) refl refl refl refl refl refl,
  (
    clears W.B 3 (pos 3 ∷ pos 3 ∷ []) (pos 120) (omega arith) refl refl refl refl refl refl,
    (
      clears W.C 1 [] (pos 0) (omega arith) refl refl refl refl refl refl,
      (
        fails W.D 1 (omega arith) refl refl refl refl refl,
        (
          clears W.E 1 [] (neg 40) (omega arith) refl refl refl refl refl refl,
          (
            clears W.F 2 (pos 0 ∷ []) (pos 0) (omega arith) refl refl refl refl refl refl,
            (
              clears W.G 3 (pos 0 ∷ neg 1 ∷ []) (pos 40) (omega arith) refl refl refl refl refl refl,
              (
                clears W.H 2 (neg 1 ∷ []) (neg 4) (omega arith) refl refl refl refl refl refl,
                (
                  fails W.I 2 (omega arith) refl refl refl refl refl,
                  (
                    clears W.J 3 (pos 2 ∷ pos 2 ∷ []) (pos 20) (omega arith) refl refl refl refl refl refl,
                    (
                      clears W.K 2 (pos 2 ∷ []) (pos 90) (omega arith) refl refl refl refl refl refl,
                      (
                        clears W.L 2 (pos 3 ∷ []) (pos 120) (omega arith) refl refl refl refl refl refl,
                        (
                          clears W.M 2 (pos 4 ∷ []) (pos 80) (omega arith) refl refl refl refl refl refl,
                          tt,
                        ),
                      ),
                    ),
                  ),
                ),
              ),
            ),
          ),
        ),
      ),
    ),
  ),
)
