-- What is told of the files of a folder.
use Rattle.std.specs.Prelude.{◌≡◌, ℕ, ◌+◌, List, [], length, Option, Some, None, ⊤}
use Rattle.std.specs.Io.KnownBytes.{Consumes, IsAtEnd}
use Rattle.swi_outside.specs.Shelf.{Contents, Stands}

-- a file that is open for reading gives what stands under its name, as far as is told
abbrev pub Gives : Option Contents → List ℕ → Option (List ℕ) → Type 0
Gives None name left = ⊤
Gives (Some m) name None = ⊥
Gives (Some m) name (Some bytes) = m name ≡ Some bytes

-- a file that is to be written has no byte yet, as far as is told
abbrev pub IsNew : Option Contents → Option (List ℕ) → Type 0
IsNew None written = ⊤
IsNew (Some m) written = written ≡ Some []

-- what was written stands under a name, as far as is told, before and after
abbrev pub Keeps : Option Contents → Option Contents → List ℕ → Option (List ℕ) → Type 0
Keeps None new name written = new ≡ None
Keeps (Some m) new name None = ⊤
Keeps (Some m) new name (Some bytes) = Stands new name bytes

-- these are all the bytes that were left, as far as is told
abbrev pub TakesAll : Option (List ℕ) → Option (List ℕ) → List ℕ → Type 0
TakesAll old new bytes = Consumes old new bytes × IsAtEnd new

-- one byte more than a limit was taken, as far as is told
abbrev pub TakesMore : Option (List ℕ) → Option (List ℕ) → ℕ → Type 0
TakesMore old new limit = (bytes : List ℕ) × Consumes old new bytes × (length bytes ≡ limit + 1)
