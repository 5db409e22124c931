-- What refusal 9 leaves: no link of the file joins members already joined by earlier links. Assumes nothing.
use mathlib.Core.Path.{◌≡◌, refl, sym, ◌∙◌}
use mathlib.Core.Bool.{Bool, true, false}
use mathlib.Core.List.{List, [], ◌∷◌}
use mathlib.Core.Option.{Option, none, some}
use Prim.Native.Nat.{ℕ, suc}
use Rattle.std.proofs.lemmas.Bool.{true≢false}
use Rattle.problem.specs.Problem.{joined}
use Rattle.problem.proofs.Tree.{Open}
use Rattle.problem.proofs.Joins.{joined_is}
use Rattle.records.specs.Records.{Entry, entries}
use Rattle.records.specs.Records.Entry.{link, offer, begins, fault}
use Rattle.records.specs.Market.{links_of}
use Rattle.market.specs.Refusals.{first_record, closes}

open_from : (i : ℕ) (earlier es : List Entry) → first_record closes i earlier es ≡ none → Open (links_of earlier) (links_of es)
unfolding first_record closes links_of
open_from i earlier [] e = tt
open_from i earlier (offer o ∷ es) e = open_from (suc i) (offer o ∷ earlier) es e
open_from i earlier (begins j ∷ es) e = open_from (suc i) (begins j ∷ earlier) es e
open_from i earlier (fault k ∷ es) e = open_from (suc i) (fault k ∷ earlier) es e
open_from i earlier (link l ∷ es) e = go (joined (links_of earlier) l.a l.b) refl e (open_from (suc i) (link l ∷ earlier) es)
  where
    go : (t : Bool) → joined (links_of earlier) l.a l.b ≡ t → ◌≡◌ {A = Option ℕ} (elim t [ true ↦ some i | false ↦ first_record closes (suc i) (link l ∷ earlier) es ]) none
        → (first_record closes (suc i) (link l ∷ earlier) es ≡ none → Open (l ∷ links_of earlier) (links_of es)) → Open (links_of earlier) (l ∷ links_of es)
    go true t e ih = cc (e)
    go false t e ih = (λ j. true≢false (sym ((joined_is (links_of earlier) l.a l.b).1 j) ∙ t), ih e)

pub ringless : (f : List ℕ) → first_record closes 0 [] (entries f) ≡ none → Open [] (links_of (entries f))
unfolding links_of
ringless f e = open_from 0 [] (entries f) e
