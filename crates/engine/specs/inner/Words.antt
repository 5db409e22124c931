-- A feeder as the walk that elimination runs over, what the stores of messages and of choices hold, and what solves it.
-- Words of the contracts: the positions of the walk are 0, 1, .., and n is how many there are.
use Rattle.std.specs.Prelude.{◌≡◌, List, [], ◌∷◌, ℕ, suc, ◌+◌, ◌-◌, ◌*◌, ◌≤◌, ◌<◌, ℤ, pos, ◌-ℤ◌, get_or}
use Rattle.numbers.specs.inner.Held.{units}
use Rattle.problem.specs.Problem.{Offer, value}
use Rattle.problem.proofs.Cell.{◌⊕◌}
use Rattle.problem.proofs.Max.{max_to, argmax}
use Rattle.problem.proofs.Form.{Walk, run, picks}
use Rattle.problem.proofs.Prices.{cell_of}
use Rattle.problem.proofs.Answer.{start}
use Rattle.problem.proofs.Closed.{indices}
use Rattle.problem.proofs.Reach.{reach}
use Rattle.problem.proofs.Table.{tab, chosen}
use Rattle.problem.proofs.Transfer.{around}
use Rattle.network.specs.declared.Feeder.{Feeder}
use Rattle.network.specs.inner.Feeders.{member_at, parent_at, toward_at, away_at}
use Rattle.records.specs.Records.{entries}
use Rattle.records.specs.Market.{offers_of}
use Rattle.engine.specs.declared.Solution.{Solution}
use Rattle.engine.specs.declared.Trade.{Trade}
use Rattle.engine.specs.declared.downward.Choice.{Choice}
use Rattle.engine.specs.declared.stores.Stores.{Stores}

-- own v x: the cell of position v's own row at x
abbrev pub walk_of : Feeder → (ℕ → ℕ → ℕ) → Walk
walk_of f own = record { par = λ i. parent_at f i; wide = λ i. toward_at f i + away_at f i; gain = λ i p. 1; row = own }

-- the most units that the member at position v can buy
unfoldable pub top_of : Feeder → ℕ → ℕ
top_of f v = around (λ i. parent_at f i) (λ i. toward_at f i) (λ i. away_at f i) (f.members - 1) v

-- the own rows that the offers make: cell x of position v's is for top_of f v - x units
unfoldable pub own_of : Feeder → List Offer → ℕ → ℕ → ℕ
own_of f os v x = cell_of 1000000 (value os (member_at f v) (pos (top_of f v) -ℤ pos x))

-- what a position's arrays hold, read by place; past the end stands nothing
abbrev pub cell_in : List (List ℕ) → ℕ → ℕ → ℕ
cell_in messages i p = get_or (get_or messages i []) p 0

abbrev pub choice_in : List Choice → ℕ → Choice
choice_in choices i = get_or choices i (record { taken = 0; index = 0 })

abbrev pub net_in : List Trade → ℕ → ℤ
net_in trades i = (get_or trades i (record { net = units (pos 0); sent = units (pos 0) })).net.0

abbrev pub sent_in : List Trade → ℕ → ℤ
sent_in trades i = (get_or trades i (record { net = units (pos 0); sent = units (pos 0) })).sent.0

-- no price is past 1,000,000
abbrev pub Small : (ℕ → ℕ → ℕ) → Type 0
Small own = (v x : ℕ) → own v x ≤ 2000001

-- where the choices of position i begin: the positions before it, from 1 on, have 1, 81, 161, .. places
unfoldable pub slot_of : ℕ → ℕ
slot_of i = (i - 1) * (40 * (i - 1) + 1) - 40 * (i - 1)

-- the messages of the positions from lo on
pub record Sent (k : Walk) (n : ℕ) (messages : List (List ℕ)) (lo : ℕ) : Type 0 where
  pub sent : (i p : ℕ) → lo ≤ i → i < n → p ≤ k.wide i → cell_in messages i p ≡ tab k n (suc i) i p

-- the choices of the positions whose parent is past v, and of those from lo on whose parent is v
pub record Kept (k : Walk) (n : ℕ) (choices : List ℕ) (v lo : ℕ) : Type 0 where
  pub kept : (i y : ℕ) → 1 ≤ i → i < n → v ≤ k.par i → (k.par i ≡ v → lo ≤ i) → y ≤ reach k i (k.par i) → get_or choices (slot_of i + y) 0 ≡ chosen k n i y

-- what the message at p and the row make together at x
abbrev pub meet : List ℕ → List ℕ → ℕ → ℕ → ℕ → ℕ
meet message row w x p = get_or message p 0 ⊕ get_or row (x + (w - p)) 0

-- the message of position i, of w + 1 cells, taken into a row of len cells
pub record Taken (message row store row' store' : List ℕ) (i w len : ℕ) : Type 0 where
  pub cells : (x : ℕ) → x < len - w → get_or row' x 0 ≡ max_to (meet message row w x) w
  pub picks : (x : ℕ) → x < len - w → get_or store' (slot_of i + x) 0 ≡ argmax (meet message row w x) w
  pub before : (j : ℕ) → j < slot_of i → get_or store' j 0 ≡ get_or store j 0
  pub after : (j : ℕ) → slot_of i + (len - w) ≤ j → get_or store' j 0 ≡ get_or store j 0

-- before the member at v: its own row is what the table makes, and all past it have sent their messages
pub record Ready (f : Feeder) (table : List ℕ) (v : ℕ) (s : Stores) (own : ℕ → ℕ → ℕ) : Type 0 where
  pub small : Small own
  pub row_is : (x : ℕ) → own v x ≡ own_of f (offers_of (entries table)) v x
  pub sent : Sent (walk_of f own) f.members s.messages (v + 1)
  pub kept : Kept (walk_of f own) f.members s.choices v f.members

-- after it
pub record Done (f : Feeder) (v : ℕ) (s : Stores) (own : ℕ → ℕ → ℕ) : Type 0 where
  pub sent : Sent (walk_of f own) f.members s.messages v
  pub kept : Kept (walk_of f own) f.members s.choices v 0

-- the choice at each of n positions, and the index that the choices give it
pub record Settled (k : Walk) (n : ℕ) (chosen : List Choice) : Type 0 where
  pub choices : (i : ℕ) → i < n → (choice_in chosen i).taken ≡ get_or (0 ∷ picks k (n - 1) 1 start) i 0
  pub indexed : (i : ℕ) → i < n → (choice_in chosen i).index ≡ indices k 1 start (picks k (n - 1) 1 start) i
  pub within : (i : ℕ) → i < n → (choice_in chosen i).index ≤ 2480

-- what the choices make at each of n positions, and nothing past them
pub record Flows (f : Feeder) (chosen : List Choice) (trades : List Trade) (n : ℕ) : Type 0 where
  pub nets : (i : ℕ) → i < n → net_in trades i ≡ pos (top_of f i) -ℤ pos (choice_in chosen i).index
  pub sends : (i : ℕ) → i < n → sent_in trades i ≡ pos (choice_in chosen i).taken -ℤ pos (away_at f i)
  pub past : (i : ℕ) → n ≤ i → (net_in trades i ≡ pos 0) × (sent_in trades i ≡ pos 0)

-- the cell of the best total, 0 where there is none
unfoldable pub best_of : Feeder → (ℕ → ℕ → ℕ) → ℕ
best_of f own = run (walk_of f own) (f.members - 1) 1 0 0

-- what the choices of elimination make, in a total or in none: the cell of the total, and what each position buys and sends
-- toward member 1
pub record Made (f : Feeder) (own : ℕ → ℕ → ℕ) (s : Solution) : Type 0 where
  pub best_is : s.best ≡ best_of f own
  pub nets : (i : ℕ) → i < f.members
      → net_in s.trades i ≡ pos (top_of f i) -ℤ pos (indices (walk_of f own) 1 start (picks (walk_of f own) (f.members - 1) 1 start) i)
  pub sends : (i : ℕ) → i < f.members
      → sent_in s.trades i ≡ pos (get_or (0 ∷ picks (walk_of f own) (f.members - 1) 1 start) i 0) -ℤ pos (away_at f i)
  pub past : (i : ℕ) → f.members ≤ i → (net_in s.trades i ≡ pos 0) × (sent_in s.trades i ≡ pos 0)

-- a solution: there is a total
pub record Solved (f : Feeder) (own : ℕ → ℕ → ℕ) (s : Solution) : Type 0 where
  pub some : 1 ≤ s.best
  pub made : Made f own s

-- no allocation is possible, and what the choices make all the same
pub record Unsolved (f : Feeder) (own : ℕ → ℕ → ℕ) (s : Solution) : Type 0 where
  pub none : s.best ≡ 0
  pub made : Made f own s
