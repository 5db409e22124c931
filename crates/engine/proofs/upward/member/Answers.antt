-- `member` meets its contract. The loop's invariant: for every own row that the table makes, the row has taken in the children
-- from position k on; no message has changed.
use native.Mathlib.Omega.{arith}
use mathlib.Core.Path.{◌≡◌, refl, sym, ap, ◌∙◌}
use mathlib.Core.List.{List, []}
use Prim.Native.Nat.{ℕ, ◌+◌, ◌-◌, ◌<◌, ◌≤◌, ◌^◌}
use lib.ListN.{length, get_or, take}
use lib.Seq.{get_or-take, get_or-set_same, get_or-set_other, set-get_or, length-take-le}
use Rattle.std.proofs.Common.{rules}
use Rattle.engine.specs.inner.Words.{walk_of, Small, Ready}
use Rattle.engine.proofs.Shape.{shape}
use Rattle.engine.proofs.Parts.{fronts, whole, taken_whole}
use Rattle.engine.proofs.Passes.{own_law}
use Rattle.engine.proofs.Turns.{fallen, Asked, Turned, kid_law, turn_not, start_law, end_len, end_kept, end_sent}
use Rattle.engine.proofs.upward.member.Goals as goal
use Rattle.engine.proofs.upward.member.Goals.{After-width-w, At-loop-k}

-- a child of v: what taking in its message asks, where the own rows are small, and how the row stands then
kid : (c : After-width-w) (own : ℕ → ℕ → ℕ) → Ready c.args.feeder.now c.args.table.now c.args.v c.args.stores.now own
    → let f = c.args.feeder.now in let st = c.loop-k.stores in let i = c.loop-k.k - 1 in
    (Small own → Asked st.messages c.loop-k.row i c.width-w.result c.loop-k.len)
    × Turned (walk_of f own) f.members c.loop-k.row st.choices st.messages c.args.v c.width-w.result c.loop-k.len i
kid c own r =
    let f = c.args.feeder.now in
    kid_law (walk_of f own) f.members (shape f own) c.loop-k.stores.messages (fallen _ _ (c.loop-k.invariant.gathered own r) (omega arith)) (omega arith)
    (rw c.loop-k.invariant.messages r.sent) (omega arith) (omega arith)

asked : (c : After-width-w) → Asked c.loop-k.stores.messages c.loop-k.row (c.loop-k.k - 1) c.width-w.result c.loop-k.len
asked c = let r = c.requires.ready in (kid c r.0 r.1).0 r.1.small

front : (c : After-width-w) → length (take c.loop-k.len c.loop-k.row) ≡ c.loop-k.len
front c =
    let r = c.requires.ready in
    length-take-le c.loop-k.len c.loop-k.row (omega (arith, (c.loop-k.invariant.gathered r.0 r.1).rows, (asked c).0))

pub overflow_sub-len : goal.overflow_sub-len
overflow_sub-len c = let s = (asked (goal.at.overflow_sub-len c).After-width-w).0 in omega (arith, s)

pub loop-k-preserved : goal.loop-k-preserved
loop-k-preserved c = record {
  few = omega arith;
  messages = c.loop-k.invariant.messages;
  gathered = λ own r.
      let f = c.args.feeder.now in
      turn_not (walk_of f own) _ (shape f own) (fallen _ _ (c.loop-k.invariant.gathered own r) (omega arith)) (omega arith) (λ e. c.if-feeder-k.false (omega arith));
}

pub loop-k-init : goal.loop-k-init
loop-k-init c =
    let f = c.args.feeder.now in
    let n : length (take c.row_len-len.result c.args.row.now) ≡ c.row_len-len.result = search rules in
    record {
      few = search rules;
      messages = refl;
      gathered = λ own r.
          start_law (walk_of f own) f.members (shape f own) _ _ c.args.v _ _ refl c.requires.feeder (c.row_len-len.ensures.joined own)
          (whole c.args.row.now c.own_row.new.row _ n c.own_row.auto.row ∙ omega arith)
          (λ x d. own_law f c.args.table.now c.own_row.new.row _ c.args.v c.row_len-len.result _ c.top.result.0 n c.top.ensures c.own_row.auto.row c.own_row.ensures x d ∙ sym (r.row_is x)) r.kept;
    }

pub take_in-requires-clause-cells : goal.take_in-requires-clause-cells
take_in-requires-clause-cells c =
    let b = (goal.at.take_in-requires-clause-cells c).After-width-w in
    let s = (asked b).0 in
    let n = front b in
    (s.0, s.1, s.2, omega (arith, n, s), omega (arith, n, s))

pub take_in-requires-clause-values : goal.take_in-requires-clause-values
take_in-requires-clause-values c =
    let a = (asked (goal.at.take_in-requires-clause-values c).After-width-w).1 in
    (fronts (λ (z : ℕ). z < 2 ^ 31) _ _ a.1, a.0)

pub loop-k-preserved-then-feeder-k : goal.loop-k-preserved-then-feeder-k
loop-k-preserved-then-feeder-k c =
    let b = (goal.at.loop-k-preserved-then-feeder-k c).After-width-w in
    let n = front b in
    record {
      few = omega arith;
      messages = set-get_or c.loop-k.stores.messages _ [] ∙ c.loop-k.invariant.messages;
      gathered = λ own r.
          (kid b own r).1 _ _ (taken_whole _ c.loop-k.row _ c.take_in.new.row _ _ _ _ _ n c.take_in.ensures c.take_in.auto.row (asked b).0.3)
          (whole c.loop-k.row c.take_in.new.row _ n c.take_in.auto.row);
    }

-- at the end: what is left of the row is v's message
ends : (c : At-loop-k) → c.loop-k.k ≤ c.args.v + 1 → c.loop-k.len ≤ 81
ends c q =
    let r = c.requires.ready in
    let z = shape c.args.feeder.now r.0 in
    omega (arith, end_len (walk_of c.args.feeder.now r.0) _ z (c.loop-k.invariant.gathered r.0 r.1) q, z.narrow c.args.v)

pub put_message-requires : goal.put_message-requires
put_message-requires c = let h = ends (goal.at.put_message-requires c).At-loop-k c.loop-k-test.false in search rules

pub returns : goal.returns
returns c = λ own r.
    let k = walk_of c.args.feeder.now own in
    let s = shape c.args.feeder.now own in
    let g = c.loop-k.invariant.gathered own r in
    let q = c.loop-k-test.false in
    let lm : c.args.v < length c.loop-k.stores.messages = search rules in
    let n : length (take c.loop-k.len c.loop-k.row) ≡ c.loop-k.len = search rules in
    record {
      sent = end_sent k _ s g q c.loop-k.stores.messages _ (rw c.loop-k.invariant.messages r.sent)
          (λ x d. ap (λ (cells : List ℕ). get_or cells x 0) (get_or-set_same c.loop-k.stores.messages _ c.put_message.new.message [] lm)
          ∙ c.put_message.ensures x (omega arith) ∙ get_or-take c.loop-k.len c.loop-k.row x 0 d)
          (λ j p l. ap (λ (cells : List ℕ). get_or cells p 0) (get_or-set_other c.loop-k.stores.messages _ j c.put_message.new.message [] (omega arith)));
      kept = end_kept k _ s g q;
    }
