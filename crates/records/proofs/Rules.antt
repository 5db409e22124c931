-- A rule is found from its number, and a number from its rule. Assumes nothing.
use mathlib.Core.Path.{◌≡◌, refl}
use Prim.Native.Nat.{ℕ, ◌≤◌}
use native.Mathlib.Omega.{arith}
use Rattle.std.proofs.lemmas.Bool.Decides.{nat_tests}
use Rattle.records.specs.declared.Rule.{Rule}
use Rattle.records.specs.inner.Cases.{number_of, rule_of}

pub rule_of_number : (r : Rule) → rule_of (number_of r) ≡ r
unfolding rule_of number_of
rule_of_number Rule.TooLong = refl
rule_of_number Rule.NotWhole = refl
rule_of_number Rule.UnknownKind = refl
rule_of_number Rule.OutOfRange = refl
rule_of_number Rule.NoOffer = refl
rule_of_number Rule.WithoutOffer = refl
rule_of_number Rule.TooManyOffers = refl
rule_of_number Rule.ClosesRing = refl
rule_of_number Rule.Apart = refl
rule_of_number Rule.NoRoom = refl
rule_of_number Rule.Impossible = refl
rule_of_number Rule.Unpaired = refl
rule_of_number Rule.BadSpan = refl

pub number_of_rule : (n : ℕ) → 1 ≤ n → n ≤ 14 → (n ≡ 8 → ⊥) → number_of (rule_of n) ≡ n
unfolding number_of rule_of
number_of_rule n l h d = grind (arith, nat_tests)
