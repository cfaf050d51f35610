-- A sink: its bytes, and its count of faults, and what it does with a piece, where it tells what it holds.
use Rattle.std.specs.Prelude.{ℕ, List, ◌++◌, take, Option, Result, MatchResult}
use Rattle.std.specs.Io.KnownBytes.{Appends}
use Rattle.swi_outside.specs.Causes.{HasCause}

pub record SinkState : Type 0 where
  -- the bytes that it holds, where the sink tells them
  pub held : Option (List ℕ)
  -- a count of failed calls
  pub faults : ℕ

-- some prefix of the piece is appended
abbrev pub AppendsPrefix : Option (List ℕ) → Option (List ℕ) → List ℕ → Type 0
AppendsPrefix old new piece = (k : ℕ) × Appends old new (take k piece)

-- a piece is appended, and some prefix of the next
abbrev pub AppendsThenPrefix : Option (List ℕ) → Option (List ℕ) → List ℕ → List ℕ → Type 0
AppendsThenPrefix old new piece next = (k : ℕ) × Appends old new (piece ++ take k next)

-- the whole piece at `Ok`, and a prefix of it at `Err`
abbrev pub WritesPiece : {E : Type 0} → Option (List ℕ) → Option (List ℕ) → Result Unit E → List ℕ → Type 0
WritesPiece old new result piece = MatchResult result (λ _. Appends old new piece) (λ _. AppendsPrefix old new piece)

-- A write of a piece, by its answer. The count of faults never falls, and rises with a failure alone, unless it stands at 2^64 - 1 or above.
pub record WasWritten {E : Type 0} (old new : SinkState) (result : Result Unit E) (piece : List ℕ) : Type 0 where
  pub bytes : WritesPiece old.held new.held result piece
  pub cause : HasCause old.faults new.faults result
