-- A file that passes refusals 1 to 10, 13 and 14 is a market on a tree. Assumes nothing.
use mathlib.Core.Path.{◌≡◌, refl}
use mathlib.Core.List.{List, []}
use mathlib.Core.Option.{Option, none, some}
use Prim.Native.Nat.{ℕ}
use Rattle.problem.proofs.Tree.{Tree}
use Rattle.records.specs.Records.{entries}
use Rattle.records.specs.Refusals.{refusal, unsound}
use Rattle.records.specs.Market.{market_of}
use Rattle.records.proofs.Entries.{both_none}
use Rattle.market.specs.Refusals.{first_record, no_offer, without, too_many, closes, apart, file_refusal}
use Rattle.market.proofs.Verdicts.{some_member}
use Rattle.market.proofs.LinkRecords.{links_within}
use Rattle.market.proofs.Ringless.{ringless}
use Rattle.market.proofs.Trees.{tree_of}

-- a refusal that is not given has no place
unplaced : (k : ℕ) (o : Option ℕ) → refusal k o ≡ none → o ≡ none
unfolding refusal
unplaced k none e = refl
unplaced k (some p) e = cc (e)

-- what passes refusals 5 to 10
pub record Passed (f : List ℕ) : Type 0 where
  pub read : unsound f ≡ none
  pub offers : no_offer (market_of f) ≡ none
  pub ringless : first_record closes 0 [] (entries f) ≡ none
  pub whole : apart (market_of f) ≡ none

pub passed : (f : List ℕ) → file_refusal f ≡ none → Passed f
unfolding file_refusal
passed f e =
    let p = both_none (unsound f) _ e in
    let p5 = both_none (refusal 5 (no_offer (market_of f))) _ p.1 in
    let p6 = both_none (refusal 6 (without (market_of f))) _ p5.1 in
    let p7 = both_none (refusal 7 (too_many (market_of f))) _ p6.1 in
    let p9 = both_none (refusal 9 (first_record closes 0 [] (entries f))) (refusal 10 (apart (market_of f))) p7.1 in
    record {
      read = p.0;
      offers = unplaced 5 (no_offer (market_of f)) p5.0;
      ringless = unplaced 9 (first_record closes 0 [] (entries f)) p9.0;
      whole = unplaced 10 (apart (market_of f)) p9.1;
    }

pub sound_tree : (f : List ℕ) → file_refusal f ≡ none → Tree (market_of f)
unfolding market_of
sound_tree f e = let p = passed f e in tree_of (market_of f) (some_member f p.offers) (links_within f) (ringless f p.ringless) p.whole
