-- What stands on a page once a text, a number or a line was put on it. Assumes nothing.
use Rattle.std.specs.Prelude.{◌≡◌, List, [], ◌∷◌, ◌++◌, ℕ, ◌+◌, ◌-◌, min, length, take, drop, ℤ}
use Rattle.std.specs.Fmt.{signed_decimal}
use Rattle.std.specs.List.{flat_map}

-- s was put on `page` from the place `at` on, as far as the page goes: `made` is the page then, `place` the place after s
pub record Put (page : List ℕ) (at : ℕ) (s made : List ℕ) (place : ℕ) : Type 0 where
  pub bytes : made ≡ take at page ++ take (length page - at) s ++ drop (at + length s) page
  pub end : place ≡ min (at + length s) (length page)

-- z was put on the page in decimal: its sign where it is below 0, and then its digits, with no zero before the first
abbrev pub PutNumber : List ℕ → ℕ → ℤ → List ℕ → ℕ → Type 0
PutNumber page at z made place = Put page at (signed_decimal z) made place

-- a blank, and a number in decimal
abbrev pub blank_and : ℤ → List ℕ
blank_and z = 32 ∷ signed_decimal z

-- a line: a word, numbers with a blank before each, and the line's end
abbrev pub line_of : List ℕ → List ℤ → List ℕ
line_of word numbers = word ++ flat_map blank_and numbers ++ 10 ∷ []
