-- What a turn reads comes after what was read.
use Rattle.std.proofs.Common.{◌≡◌, ℕ, ◌+◌, ◌-◌, ◌≤◌, List, ◌++◌, rules, length, take, drop, sym, ap, ◌∙◌, subst, le_refl, drop_at, length-take-le}
use Rattle.std.proofs.lemmas.Slice.{take-put_mid_below}
use borrow.Rule.Slice.PartMut.{put_mid, post_of}
use lib.Seq.{take-add, take-append-le}
use Rattle.std.specs.Io.KnownBytes.{Consumes}
use Rattle.std.proofs.KnownBytes.{Consumes-trans}
use Rattle.streams.proofs.read.Goals as goal

-- the first n + got bytes once a part from n on holds `part`
take_put : (n k got : ℕ) (file part : List ℕ) → n ≤ length file → got ≤ length part → take (n + got) (put_mid n k file part) ≡ take n file ++ take got part
take_put n k got file part within fits =
    let after = part ++ post_of n k file in
    take-add n got (put_mid n k file part)
    ∙ ap (λ l. l ++ take got (drop n (put_mid n k file part))) (take-put_mid_below n k file part n (le_refl n) within)
    ∙ ap (λ l. take n file ++ take got l) (drop_at (take n file) after n (length-take-le n file within))
    ∙ ap (λ l. take n file ++ l) (take-append-le got part (post_of n k file) fits)

pub loop-n-preserved : goal.loop-n-preserved
loop-n-preserved g c =
    let n = c.loop-n.n in
    let got = c.in_ok-got.got in
    let file = c.loop-n.file in
    let read = c.in_ok-got.ensures in
    let put = take_put n (length file - n) got file c.read.new.buf c.loop-n.invariant.0 read.bound.0 in
    let both = Consumes-trans _ _ _ _ _ c.loop-n.invariant.2 read.bytes.0 in
    (search rules, search rules, subst (Consumes _ _) (sym put) both)
