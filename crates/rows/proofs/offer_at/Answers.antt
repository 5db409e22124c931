-- `offer_at` meets its contract: a record is a member's offer where its byte 1 is the member and it is an offer. Assumes nothing.
use mathlib.Core.Path.{ap, ◌∙◌}
use Prim.Native.Nat.{ℕ, ◌*◌}
use native.Mathlib.Nat.{add-zero}
use lib.ListN.{get_or}
use Rattle.rows.proofs.Gives.{other_member, a_beginning, a_fault, no_offer, terms_limited, an_offer}
use Rattle.rows.proofs.offer_at.Goals as goal
use Rattle.rows.proofs.offer_at.Goals.{then-records-i-via-then-records-i, then-records-i-via-else-records-i+then-records-i-2}

pub returns-then-records-i : goal.returns-then-records-i
returns-then-records-i c =
    let a = c.args in
    elim c.then-records-i.branch [
      | then-records-i-via-then-records-i w ↦ other_member a.records.now a.i a.j.0 w.if-records-i.true
      | then-records-i-via-else-records-i+then-records-i-2 w ↦ a_beginning a.records.now a.i (ap (λ (k : ℕ). get_or a.records.now k 0) (add-zero (8 * a.i)) ∙ w.if-records-i-2.true) a.j.0
    ]

pub returns-in_err-t : goal.returns-in_err-t
returns-in_err-t c = rw c.from_residual.ensures (a_fault _ _ _ c.read_at.ensures c.in_err-t.ensures.value _)

pub returns-in_default : goal.returns-in_default
returns-in_default c = no_offer _ _ _ c.read_at.ensures _ c.in_ok-t.ensures.value c.in_default.not-Offer _

pub returns : goal.returns
returns c =
    an_offer _ _ _ c.read_at.ensures _ c.in_ok-t.ensures.value _ _ c.in-Offer.is _ c.if-records-i.false _ c.of.ensures

pub of-requires : goal.of-requires
of-requires c = terms_limited _ _ _ c.read_at.ensures _ c.in_ok-t.ensures.value _ _ c.in-Offer.is
