-- What is said of a source that tells what is left, said of every source.
use Rattle.std.specs.Prelude.{ℕ, List, Some}
use Rattle.swi_outside.specs.Source.{SourceState, ForInput}

-- the source, where this is left
abbrev pub told_as : SourceState → List ℕ → SourceState
told_as s left = record s { left = Some left }

-- what is said of two states of a source that tells what is left, of each input from which what was given may have been read
abbrev pub AsTold : SourceState → SourceState → (SourceState → SourceState → Type 0) → Type 0
AsTold old new P = ForInput old new (λ input rest. P (told_as old input) (told_as new rest))
