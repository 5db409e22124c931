-- What a turn writes comes after what was written.
use Rattle.std.proofs.Common.{◌≡◌, ◌-◌, ◌++◌, rules, length, take, drop, sym, ap, ◌∙◌, subst}
use Rattle.std.proofs.lemmas.List.{take_rest}
use lib.Seq.{take-add}
use Rattle.std.specs.Io.KnownBytes.{Appends}
use Rattle.std.proofs.KnownBytes.{Appends-trans}
use Rattle.streams.proofs.write_all.Goals as goal

pub loop-n-preserved : goal.loop-n-preserved
loop-n-preserved g c =
    let text = c.args.text.now in
    let n = c.loop-n.n in
    let put = c.in_ok-put.put in
    let rest : take (length text - n) (drop n text) ≡ drop n text = take_rest text n in
    let both = Appends-trans _ _ _ _ _ c.loop-n.invariant.1 c.in_ok-put.ensures.bytes in
    (search rules, subst (Appends _ _) (ap (λ l. take n text ++ take put l) rest ∙ sym (take-add n put text)) both)
