-- How far a read or a write came that failed midway, where the bytes of the reader or the writer are known. Assumes nothing.
use Rattle.std.specs.Prelude.{ℕ, ◌≤◌, List, Option, length, take}
use Rattle.std.specs.Io.KnownBytes.{Appends, Consumes}

-- what left the reader stands at the start of `file`
pub record Came (old new : Option (List ℕ)) (file : List ℕ) : Type 0 where
  pub many : ℕ
  pub within : many ≤ length file
  pub bytes : Consumes old new (take many file)

-- what reached the writer is a first part of `text`
pub record Went (old new : Option (List ℕ)) (text : List ℕ) : Type 0 where
  pub many : ℕ
  pub within : many ≤ length text
  pub bytes : Appends old new (take many text)
