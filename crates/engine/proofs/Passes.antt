-- The passes over all members, apart from any code: what is ready before each and done after it, and what all of it solves.
-- Assumes nothing.
use mathlib.Core.Path.{◌≡◌, refl, ap, ◌∙◌}
use mathlib.Core.List.{List, ◌++◌}
use Prim.Native.Nat.{ℕ, ◌-◌, ◌<◌, ◌≤◌}
use native.Mathlib.Omega.{arith}
use lib.IntN.{ℤ, pos, ◌-ℤ◌}
use lib.ListN.{length, get_or, get_or-append}
use Rattle.problem.specs.Problem.{value}
use Rattle.problem.proofs.Prices.{cell_of}
use Rattle.problem.proofs.Table.{tab}
use Rattle.network.specs.declared.Feeder.{Feeder}
use Rattle.network.specs.inner.Feeders.{member_at, away_at}
use Rattle.records.specs.Records.{entries}
use Rattle.records.specs.Market.{offers_of}
use Rattle.rows.proofs.Gives.{cell_bound}
use Rattle.engine.specs.declared.Trade.{Trade}
use Rattle.engine.specs.declared.downward.Choice.{Choice}
use Rattle.engine.specs.declared.stores.Stores.{Stores}
use Rattle.engine.specs.inner.Words.{walk_of, top_of, own_of, best_of, Small, cell_in, Ready, Done, Settled, Flows, Made, Solved}

own_small : (f : Feeder) (table : List ℕ) → Small (own_of f (offers_of (entries table)))
unfolding own_of
own_small f table v x = cell_bound (member_at f v) (pos (top_of f v) -ℤ pos x) table

-- a row of len cells that the table has filled, and what stands past it
pub own_law : (f : Feeder) (table row rest : List ℕ) (v len n : ℕ) (t : ℤ) → n ≡ len → t ≡ pos (top_of f v) → length row ≡ n
    → ((x : ℕ) → x < n → get_or row x 0 ≡ cell_of 1000000 (value (offers_of (entries table)) (member_at f v) (t -ℤ pos x)))
    → (x : ℕ) → x < len → get_or (row ++ rest) x 0 ≡ own_of f (offers_of (entries table)) v x
unfolding own_of
own_law f table row rest v len n t q e s h x d =
    get_or-append row rest 0 x (omega arith) ∙ h x (omega arith)
    ∙ ap (λ (z : ℤ). cell_of 1000000 (value (offers_of (entries table)) (member_at f v) (z -ℤ pos x))) e

-- what a member leaves is ready for the one before it, whose table stands in the same records
pub done_next : (f : Feeder) (records : List ℕ) (st : Stores) (v : ℕ) → 0 < v → Done f v st (own_of f (offers_of (entries records)))
    → Ready f records (v - 1) st (own_of f (offers_of (entries records)))
done_next f records st v h d =
    record {
      small = own_small f records;
      row_is = λ x. refl;
      sent = record { sent = λ i p l b c. d.sent.sent i p (omega arith) b c };
      kept = record { kept = λ i y a b c g e. d.kept.kept i y a b (grind (arith, g)) (λ z. omega arith) e };
    }

-- the root's message is the best total
pub total_is : (f : Feeder) (own : ℕ → ℕ → ℕ) (st : Stores) → Done f 0 st own → cell_in st.messages 0 0 ≡ best_of f own
unfolding tab best_of
total_is f own st d = d.sent.sent 0 0 (omega arith) f.sound.some (omega arith)

-- what the choices make, in a total or in none
pub made : (f : Feeder) (own : ℕ → ℕ → ℕ) (st : Stores) (chosen : List Choice) (trades : List Trade) → Done f 0 st own
    → Settled (walk_of f own) f.members chosen → Flows f chosen trades f.members
    → Made f own (record { best = cell_in st.messages 0 0; trades = trades })
made f own st chosen trades d t e =
    record {
      best_is = total_is f own st d;
      nets = λ i l. e.nets i l ∙ ap (λ (x : ℕ). pos (top_of f i) -ℤ pos x) (t.indexed i l);
      sends = λ i l. e.sends i l ∙ ap (λ (x : ℕ). pos x -ℤ pos (away_at f i)) (t.choices i l);
      past = e.past;
    }

-- and where there is a total, they solve it
pub solved : (f : Feeder) (own : ℕ → ℕ → ℕ) (st : Stores) (chosen : List Choice) (trades : List Trade) → Done f 0 st own
    → Settled (walk_of f own) f.members chosen → Flows f chosen trades f.members → 1 ≤ cell_in st.messages 0 0
    → Solved f own (record { best = cell_in st.messages 0 0; trades = trades })
solved f own st chosen trades d t e h = record { some = h; made = made f own st chosen trades d t e }

-- before the last member nothing is sent yet, and nothing kept
pub done_none : (f : Feeder) (own : ℕ → ℕ → ℕ) (st : Stores) (v : ℕ) → v ≡ f.members → Done f v st own
done_none f own st v e =
    record {
      sent = record { sent = λ i p l d c. absurd (omega arith) };
      kept = record { kept = λ i y a b c d g. absurd (omega (arith, f.sound.rising i a)) };
    }
