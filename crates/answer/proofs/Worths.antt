-- The price that stands for a value. Assumes nothing.
use mathlib.Core.Path.{◌≡◌, ap, ◌∙◌}
use mathlib.Core.Option.{Option, none, some}
use lib.IntN.{ℤ, pos}
use Rattle.std.specs.Prelude as Std
use Rattle.std.specs.Option.{unwrap_or}
use Rattle.numbers.specs.declared.Price.{Price}
use Rattle.numbers.specs.inner.Held.{price}
use Rattle.records.specs.Answer.{or_zero}
use Rattle.rows.specs.inner.Rows.{worth_of}

pub price_is : {o : Std.Option Price} {p : Price} → p ≡ unwrap_or o (price (pos 0)) → (v : Option ℤ) → o ≡ worth_of v → p.0 ≡ or_zero v
unfolding or_zero
price_is h none e = ap (λ (q : Price). q.0) (h ∙ ap (λ (r : Std.Option Price). unwrap_or r (price (pos 0))) e)
price_is h (some z) e = ap (λ (q : Price). q.0) (h ∙ ap (λ (r : Std.Option Price). unwrap_or r (price (pos 0))) e)
