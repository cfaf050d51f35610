-- A source: the bytes that it gave, those that are left, and its count of faults.
use Rattle.std.specs.Prelude.{◌≡◌, ℕ, List, [], ◌++◌, take, Option, Some, None, ⊤, Result, IfOk, OnErr, MatchResult}
use Rattle.std.specs.Io.KnownBytes.{Consumes}
use Rattle.swi_outside.specs.Causes.{HasCause, counted}

pub record SourceState : Type 0 where
  -- the bytes that it gave, from the first on
  pub given : List ℕ
  -- the bytes that are left, where that is known: the source tells it, or its end was reached
  pub left : Option (List ℕ)
  -- a count of failed calls
  pub faults : ℕ

-- a source gave these bytes
pub record Gave (old new : SourceState) (bytes : List ℕ) : Type 0 where
  pub given : new.given ≡ old.given ++ bytes
  pub left : Consumes old.left new.left bytes

-- it gave some
abbrev pub HasGiven : SourceState → SourceState → Type 0
HasGiven old new = (bytes : List ℕ) × Gave old new bytes

-- A read, by its answer: it gives the bytes that it puts into the buffer, none only at the end, behind which none comes; and a failure gives
-- none. The count of faults never falls, and rises with a failure alone and by one, unless it stands at 2^64 - 1 or above.
pub record WasRead {E : Type 0} (old new : SourceState) (result : Result ℕ E) (buffer : List ℕ) : Type 0 where
  pub bytes : MatchResult result (λ n. Gave old new (take n buffer)) (λ _. Gave old new [])
  pub ended : IfOk result (λ n. n ≡ 0 → new.left ≡ Some [])
  pub cause : HasCause old.faults new.faults result
  pub once : OnErr result (new.faults ≡ counted old.faults)

-- this may be all that is left
abbrev pub MayBeLeft : Option (List ℕ) → List ℕ → Type 0
MayBeLeft None rest = ⊤
MayBeLeft (Some left) rest = rest ≡ left

-- What a source gave between two states was read from the front of this input, of which the rest may be left: where the end was reached, the
-- input is just what was given.
pub record ReadFrom (old new : SourceState) (input rest : List ℕ) : Type 0 where
  pub bytes : List ℕ
  pub given : new.given ≡ old.given ++ bytes
  pub is : input ≡ bytes ++ rest
  pub left : MayBeLeft new.left rest

-- for each input from which what was given may have been read
abbrev pub ForInput : SourceState → SourceState → (List ℕ → List ℕ → Type 0) → Type 0
ForInput old new P = (input rest : List ℕ) → ReadFrom old new input rest → P input rest
